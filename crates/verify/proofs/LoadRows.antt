-- A load that is not rejected has a result, and what is known of it is true.
use Rattle.std.proofs.Common.{◌≡◌, ◌∙◌, ℕ, zero, suc, ℤ, ◌+◌, ◌-◌, ◌*◌, ◌/◌, ◌%◌, ◌^◌, ◌<◌, ◌≤◌, List, map, length, Bool, true, false, Option, Some, None, Result, Ok, Err, IfSome, IfOk, refl, sym, ap, subst, arith, ⊎_elim}
use Rattle.std.specs.Prelude.{◌==◌, ◌≤ℤ◌, slice_range, if◌then◌else◌, option_map}
use Rattle.std.specs.Ordering.{int_eq}
use Rattle.std.proofs.lemmas.Bool.{eqb-true, and_parts, cases_eq}
use Rattle.std.proofs.lemmas.Bool.Decides.{Decides-int_eq}
use Rattle.std.proofs.lemmas.Int.{ints}
use Rattle.word.specs.declared.Width.TheVariants.{W64}
use Rattle.word.specs.declared.Narrow.{Narrow}
use Rattle.word.specs.Arithmetic.{sign_extended}
use Rattle.word.specs.Bytes.{little_number}
use Rattle.insn.specs.declared.insn.Size.{Size}
use Rattle.insn.specs.declared.insn.Size.TheVariants as size
use Rattle.insn.specs.Insn.{bytes_of, part_bytes}
use Rattle.semantics.specs.declared.value.Region.{Region}
use Rattle.semantics.specs.declared.value.Region.TheVariants.{Stack, Context}
use Rattle.semantics.specs.declared.value.Value.{Value}
use Rattle.semantics.specs.declared.value.Value.TheVariants as value
use Rattle.semantics.specs.declared.value.Cell.{Cell}
use Rattle.semantics.specs.declared.value.Cell.TheVariants.{Empty, Byte}
use Rattle.semantics.specs.State.{Cause, NoBytes, given}
use Rattle.semantics.specs.Memory.{is_same_region, pieces_of, are_pieces, value_in, bytes_in, loaded, loaded_signed}
use Rattle.semantics.specs.Run.{IsContext}
use Rattle.semantics.proofs.WordLaws.{extended_fits}
use Rattle.absval.specs.Contains.{Contains, Gives}
use Rattle.absval.specs.declared.windows.Window.{Window}
use Rattle.absval.specs.Table.{loaded_known}
use Rattle.absval.specs.Windows.{window_known}
use Rattle.absmem.specs.declared.spill.Spill.{Spill}
use Rattle.absmem.specs.declared.spill.Spill.TheVariants.{Free, Whole}
use Rattle.absmem.specs.Known.{Known, byte_at, spill_at, pointer_of}
use Rattle.absmem.specs.Describes.{Describes as StackDescribes, IsByte, IsByteIf, cell_at, AreBytes, StandsAt}
use Rattle.absmem.proofs.Overwriting.{cell-of_range}
use Rattle.verify.specs.declared.reason.Reason.{Reason}
use Rattle.verify.specs.declared.reason.Reason.TheVariants.{StackUnset}
use Rattle.verify.specs.Reasons.{unless}
use Rattle.verify.specs.MemoryTable.{all_bytes, unset_in, spilled_at, spilled, pointer_or, stack_given, load_from, load_given, signed_from, signed_load_given, all_numbers}
use Rattle.verify.proofs.Loads.{gives_number, length-part, context_part, reads_give, extended_at}
use Rattle.range.proofs.RangeRows.{by_test}
use Rattle.absval.proofs.SetRows.{within_set, within_has, any_set, any_has}
use Rattle.absval.proofs.ValueRows.{IsWell}
use Rattle.absval.proofs.WindowRows.{IsWindow, window_is}
use Rattle.absval.specs.declared.value.AbsVal.TheVariants.{Unset, Number, Pointer}
use Rattle.absval.specs.declared.value.AbsVal.{AbsVal}

-- ---- bytes

all_each : (bytes : List Bool) (place n k : ℕ) → all_bytes bytes place n ≡ true → place ≤ k → k < place + n → byte_at bytes k ≡ true
all_each bytes place zero k e ge lt = absurd (omega arith)
all_each bytes place (suc n) k e ge lt =
    let parts = and_parts (byte_at bytes place) (all_bytes bytes (suc place) n) e in
    ⊎_elim (λ same. subst (λ (j : ℕ). byte_at bytes j ≡ true) same parts.0)
    (λ other. let more : suc place ≤ k = omega (arith, other, ge) in all_each bytes (suc place) n k parts.1 more (omega arith)) (cases_eq place k)

byte_if : (t : Bool) (c : Cell) → t ≡ true → IsByteIf t c → IsByte c
byte_if true c e h = h
byte_if false c e h = cc

-- A part of a window whose cells are known to be bytes.
pub bytes_there : (known : Known) (cells : List Cell) (w : Window) (at n : ℕ) → StackDescribes known cells → length cells ≡ 512 → w.place + w.size ≤ 512 → all_bytes known.bytes w.place w.size ≡ true →
    w.place ≤ at → at + n ≤ w.place + w.size → AreBytes (slice_range cells at (at + n))
bytes_there known cells w at n d long fits all ge le k lt =
    let size : length (slice_range cells at (at + n)) ≡ n = length-part cells at n 512 long (omega arith) in
    let less : at + k < at + n = omega arith in
    let here : byte_at known.bytes (at + k) ≡ true = all_each known.bytes w.place w.size (at + k) all (omega arith) (omega arith) in
    subst IsByte (sym (cell-of_range cells at (at + n) k Empty less)) (byte_if (byte_at known.bytes (at + k)) (cell_at cells (at + k)) here (d.bytes (at + k)))

-- ---- numbers

some_bytes : (s : Size) → (0 < 256 ^ bytes_of s) × (256 ^ bytes_of s ≤ 2 ^ 64)
some_bytes size.Byte = (omega arith, omega arith)
some_bytes size.Half = (omega arith, omega arith)
some_bytes size.Word = (omega arith, omega arith)
some_bytes size.Double = (omega arith, omega arith)

loaded_meant : (s : Size) → IsWell (loaded_known s)
loaded_meant s = let b = some_bytes s in within_set (0, 256 ^ bytes_of s - 1) (omega arith) (omega (arith, b.0, b.1))

loaded_holds : (s : Size) (n : ℕ) → n < 256 ^ bytes_of s → Contains (loaded_known s) (value.Number n)
loaded_holds s n lt = let b = some_bytes s in within_has (0, 256 ^ bytes_of s - 1) n (omega (arith, b.0, b.1)) (omega arith, omega arith)

-- ---- pointers

region_same : (region : Region) → is_same_region region region ≡ true
region_same Stack = refl
region_same Context = refl

offset_same : (z : ℤ) → int_eq z z ≡ true
offset_same z = (Decides-int_eq z z).1 refl

if_true : (t : Bool) (a b : Result Value Cause) → t ≡ true → (if t then a else b) ≡ a
if_true true a b e = refl
if_true false a b e = cc

pieces_are : (region : Region) (offset : ℤ) → are_pieces region offset 0 (pieces_of region offset) ≡ true
pieces_are region offset = rw (region_same region, offset_same offset) refl

pieces_give : (region : Region) (offset : ℤ) → value_in (pieces_of region offset) ≡ Ok (value.Pointer region offset)
pieces_give region offset = if_true (are_pieces region offset 0 (pieces_of region offset)) (Ok (value.Pointer region offset)) (Err NoBytes) (pieces_are region offset)

here_at : (z : ℤ) → z ≤ℤ z
here_at z = omega (arith, ints)

-- A pointer that is known to be stored at a place.
abbrev Found : List Cell → ℕ → Option AbsVal → Type 0
Found cells place o = IfSome o (λ e. Gives e (value_in (slice_range cells place (place + 8))))

found_in : (cells : List Cell) (place : ℕ) (spill : Spill) → StandsAt cells (place / 8) spill → Found cells place (option_map (λ p. Pointer p.0 (p.1, p.1)) (pointer_of (place % 8) spill))
found_in cells place Free stands = tt
found_in cells place (Whole shift region offset) stands =
    by_test (λ (o : Option (Region × ℤ)). Found cells place (option_map (λ p. Pointer p.0 (p.1, p.1)) o)) (shift == place % 8) _ _
    (λ t. let e : shift ≡ place % 8 = eqb-true shift (place % 8) t in
    let here : 8 * (place / 8) + shift ≡ place = omega arith in
    let pieces : slice_range cells place (place + 8) ≡ pieces_of region offset = subst (λ (n : ℕ). slice_range cells n (n + 8) ≡ pieces_of region offset) here stands in
    subst (λ (r : Result Value Cause). Gives (Pointer region (offset, offset)) r) (sym (ap value_in pieces ∙ pieces_give region offset)) (refl, here_at offset, here_at offset))
    (λ f. tt)

spilled_found : (known : Known) (s : Size) (w : Window) (cells : List Cell) (at : ℕ) → StackDescribes known cells → w.place + w.size ≤ 512 → w.place ≤ at → at + bytes_of s ≤ w.place + w.size →
    IfSome (spilled known s w) (λ e. Gives e (value_in (slice_range cells at (at + bytes_of s))))
spilled_found known size.Byte w cells at d fits ge le = tt
spilled_found known size.Half w cells at d fits ge le = tt
spilled_found known size.Word w cells at d fits ge le = tt
spilled_found known size.Double w cells at d fits ge le =
    by_test (λ (o : Option AbsVal). Found cells at o) (w.size == 8) _ _
    (λ t. let eight : w.size ≡ 8 = eqb-true w.size 8 t in
    let here : w.place ≡ at = omega arith in
    let block : w.place / 8 < 64 = omega arith in
    subst (λ (n : ℕ). Found cells n (spilled_at known w.place)) here (found_in cells w.place (spill_at known.spills (w.place / 8)) (d.spills (w.place / 8) block)))
    (λ f. tt)

spilled_meant : (known : Known) (s : Size) (w : Window) → IfSome (spilled known s w) IsWell
spilled_meant known size.Byte w = tt
spilled_meant known size.Half w = tt
spilled_meant known size.Word w = tt
spilled_meant known size.Double w = by_test (λ (o : Option AbsVal). IfSome o IsWell) (w.size == 8) _ _ (λ t. mapped (pointer_of (w.place % 8) (spill_at known.spills (w.place / 8)))) (λ f. tt)
  where
    mapped : (o : Option (Region × ℤ)) → IfSome (option_map (λ p. Pointer p.0 (p.1, p.1)) o) IsWell
    mapped None = tt
    mapped (Some p) = tt

-- ---- loads

-- What a load from a part of the window on the stack gives.
abbrev Gets : Size → List Cell → ℕ → Result AbsVal Reason → Type 0
Gets s cells at r = IfOk r (λ e. Gives e (value_in (slice_range cells at (at + bytes_of s))))

stack_gets : (known : Known) (s : Size) (w : Window) (cells : List Cell) (at : ℕ) → StackDescribes known cells → length cells ≡ 512 → w.place + w.size ≤ 512 → w.place ≤ at →
    at + bytes_of s ≤ w.place + w.size → Gets s cells at (stack_given known s w)
stack_gets known s w cells at d long fits ge le = by_pointer (spilled known s w) (spilled_found known s w cells at d fits ge le)
  where
    by_pointer : (o : Option AbsVal) → IfSome o (λ e. Gives e (value_in (slice_range cells at (at + bytes_of s)))) →
        Gets s cells at (pointer_or o (unless (unset_in known Stack w) (loaded_known s)))
    by_pointer (Some e) h = h
    by_pointer None h =
        by_test (λ (o : Option Reason). Gets s cells at (unless o (loaded_known s))) (all_bytes known.bytes w.place w.size) None (Some StackUnset)
        (λ t. gives_number (loaded_known s) (slice_range cells at (at + bytes_of s)) (bytes_of s) (length-part cells at (bytes_of s) 512 long (omega arith))
        (bytes_there known cells w at (bytes_of s) d long fits t ge le) (loaded_holds s))
        (λ f. tt)

stack_meant : (known : Known) (s : Size) (w : Window) → IfOk (stack_given known s w) IsWell
stack_meant known s w = by_pointer (spilled known s w) (spilled_meant known s w)
  where
    by_pointer : (o : Option AbsVal) → IfSome o IsWell → IfOk (pointer_or o (unless (unset_in known Stack w) (loaded_known s))) IsWell
    by_pointer (Some e) h = h
    by_pointer None h = by_test (λ (o : Option Reason). IfOk (unless o (loaded_known s)) IsWell) (all_bytes known.bytes w.place w.size) None (Some StackUnset) (λ t. loaded_meant s) (λ f. tt)

-- What is true at each place of a window is true of the value that is loaded there.
abbrev Loads : List ℕ → List Cell → Size → ℤ → Value → Result AbsVal Reason → Type 0
Loads context cells s distance v r = IfOk r (λ e. Gives e (loaded context cells (bytes_of s) v distance))

from_window : (known : Known) (s : Size) (region : Region) (at : ℤ × ℤ) (distance : ℤ) (w : Window) (context : List ℕ) (cells : List Cell) (v : Value) → IsContext context → StackDescribes known cells →
    length cells ≡ 512 → Contains (Pointer region at) v → IsWindow region at.0 at.1 distance (bytes_of s) w → Loads context cells s distance v (load_from known s region (Some w))
from_window known s Context at distance w context cells v ctx d long p h =
    let fits = h.fits in
    reads_give (loaded_known s) value_in context cells Context at.0 at.1 distance w.place w.size (bytes_of s) v p h.lies
    (λ place ge le. let found = context_part context place (bytes_of s) ctx.long ctx.bytes (omega arith) in
    gives_number (loaded_known s) (slice_range (map Byte context) place (place + bytes_of s)) (bytes_of s) found.0 found.1 (loaded_holds s))
from_window known s Stack at distance w context cells v ctx d long p h =
    by_answer (stack_given known s w) (λ place ge le. stack_gets known s w cells place d long h.fits ge le)
  where
    by_answer : (r : Result AbsVal Reason) → ((place : ℕ) → w.place ≤ place → place + bytes_of s ≤ w.place + w.size → Gets s cells place r) → Loads context cells s distance v r
    by_answer (Err reason) gets = tt
    by_answer (Ok e) gets = reads_give e value_in context cells Stack at.0 at.1 distance w.place w.size (bytes_of s) v p h.lies gets

pub load_loads : (known : Known) (s : Size) (base : AbsVal) (distance : ℤ) (context : List ℕ) (cells : List Cell) (v : Value) → IsContext context → StackDescribes known cells →
    length cells ≡ 512 → Contains base v → Loads context cells s distance v (load_given known s base distance)
load_loads known s Unset distance context cells v ctx d long p = tt
load_loads known s (Number n) distance context cells v ctx d long p = tt
load_loads known s (Pointer region at) distance context cells v ctx d long p =
    by_window (window_known region at.0 at.1 distance (bytes_of s)) (window_is region at.0 at.1 distance (bytes_of s))
  where
    by_window : (o : Option Window) → IfSome o (IsWindow region at.0 at.1 distance (bytes_of s)) → Loads context cells s distance v (load_from known s region o)
    by_window None h = tt
    by_window (Some w) h = from_window known s region at distance w context cells v ctx d long p h

pub load_meant : (known : Known) (s : Size) (base : AbsVal) (distance : ℤ) → IfOk (load_given known s base distance) IsWell
load_meant known s Unset distance = tt
load_meant known s (Number n) distance = tt
load_meant known s (Pointer region at) distance = by_window region (window_known region at.0 at.1 distance (bytes_of s))
  where
    by_window : (reg : Region) (o : Option Window) → IfOk (load_from known s reg o) IsWell
    by_window reg None = tt
    by_window Context (Some w) = loaded_meant s
    by_window Stack (Some w) = stack_meant known s w

-- ---- sign-extended loads

abbrev LoadsSigned : List ℕ → List Cell → Narrow → ℤ → Value → Result AbsVal Reason → Type 0
LoadsSigned context cells part distance v r = IfOk r (λ e. Gives e (loaded_signed context cells part v distance))

signed_window : (known : Known) (part : Narrow) (region : Region) (at : ℤ × ℤ) (distance : ℤ) (w : Window) (context : List ℕ) (cells : List Cell) (v : Value) → IsContext context →
    length cells ≡ 512 → Contains (Pointer region at) v → IsWindow region at.0 at.1 distance (part_bytes part) w →
    (region ≡ Stack → (place : ℕ) → w.place ≤ place → place + part_bytes part ≤ w.place + w.size → AreBytes (slice_range cells place (place + part_bytes part))) →
    Gives all_numbers (loaded_signed context cells part v distance)
signed_window known part region at distance w context cells v ctx long p h are =
    reads_give all_numbers (λ found. given (bytes_in found) (λ bytes. Ok (value.Number (sign_extended W64 part (little_number bytes))))) context cells region at.0 at.1 distance w.place w.size
    (part_bytes part) v p h.lies
    (λ place ge le. extended_at all_numbers context cells region part w.place w.size place ctx long h.fits le (λ e. are e place ge le)
    (λ n small. any_has (sign_extended W64 part n) (extended_fits W64 part n)))

signed_from_loads : (known : Known) (part : Narrow) (region : Region) (at : ℤ × ℤ) (distance : ℤ) (o : Option Window) (context : List ℕ) (cells : List Cell) (v : Value) → IsContext context →
    StackDescribes known cells → length cells ≡ 512 → Contains (Pointer region at) v → IfSome o (IsWindow region at.0 at.1 distance (part_bytes part)) →
    LoadsSigned context cells part distance v (signed_from known region o)
signed_from_loads known part region at distance None context cells v ctx d long p h = tt
signed_from_loads known part Context at distance (Some w) context cells v ctx d long p h = signed_window known part Context at distance w context cells v ctx long p h (λ e. absurd (cc))
signed_from_loads known part Stack at distance (Some w) context cells v ctx d long p h =
    by_test (λ (o : Option Reason). LoadsSigned context cells part distance v (unless o all_numbers)) (all_bytes known.bytes w.place w.size) None (Some StackUnset)
    (λ t. signed_window known part Stack at distance w context cells v ctx long p h (λ e place ge le. bytes_there known cells w place (part_bytes part) d long h.fits t ge le))
    (λ f. tt)

pub signed_loads : (known : Known) (part : Narrow) (base : AbsVal) (distance : ℤ) (context : List ℕ) (cells : List Cell) (v : Value) → IsContext context → StackDescribes known cells →
    length cells ≡ 512 → Contains base v → LoadsSigned context cells part distance v (signed_load_given known part base distance)
signed_loads known part Unset distance context cells v ctx d long p = tt
signed_loads known part (Number n) distance context cells v ctx d long p = tt
signed_loads known part (Pointer region at) distance context cells v ctx d long p =
    signed_from_loads known part region at distance (window_known region at.0 at.1 distance (part_bytes part)) context cells v ctx d long p (window_is region at.0 at.1 distance (part_bytes part))

pub signed_meant : (known : Known) (part : Narrow) (base : AbsVal) (distance : ℤ) → IfOk (signed_load_given known part base distance) IsWell
signed_meant known part Unset distance = tt
signed_meant known part (Number n) distance = tt
signed_meant known part (Pointer region at) distance = by_window (window_known region at.0 at.1 distance (part_bytes part))
  where
    by_reason : (o : Option Reason) → IfOk (unless o all_numbers) IsWell
    by_reason None = any_set
    by_reason (Some reason) = tt

    by_window : (o : Option Window) → IfOk (signed_from known region o) IsWell
    by_window None = tt
    by_window (Some w) = by_reason (unset_in known region w)
