-- The checks of loads and stores, case by case.
use Rattle.std.proofs.Common.{ap₂, ◌≡◌, ◌∙◌, ℕ, zero, suc, ◌+◌, ◌<◌, ◌≤◌, List, Bool, true, false, Option, Some, None, Result, Ok, Err, refl, sym, ap, subst, arith}
use Rattle.std.specs.Prelude.{ℤ, ◌&&◌, ◌-◌, ◌↔◌, IsTrue, if◌then◌else◌}
use Rattle.std.specs.Option.{ok_or}
use Rattle.std.specs.Result.{result_err}
use Rattle.std.proofs.lemmas.Bool.{and_parts}
use Rattle.semantics.specs.declared.value.Region.{Region}
use Rattle.semantics.specs.declared.value.Region.TheVariants.{Stack}
use Rattle.absval.specs.declared.windows.Window.{Window}
use Rattle.absval.specs.Windows.{window_known}
use Rattle.verify.specs.declared.reason.Reason.{Reason}
use Rattle.verify.specs.declared.reason.Reason.TheVariants.{Bounds, StackUnset}
use Rattle.insn.specs.declared.insn.Size.{Size}
use Rattle.insn.specs.Insn.{bytes_of, part_bytes}
use Rattle.word.specs.declared.Narrow.{Narrow}
use Rattle.absval.specs.declared.value.Offsets.{Offsets}
use Rattle.absval.specs.declared.value.AbsVal.{AbsVal}
use Rattle.absval.specs.Table.{loaded_known}
use Rattle.absmem.specs.Known.{Known, byte_at}
use Rattle.verify.specs.Reasons.{unless, outcome}
use Rattle.verify.specs.MemoryTable.{pointer_in, all_bytes, unset_in, spilled, pointer_or, stack_given, load_from, signed_from, signed_load_given, write_refused, pointer_refused, store_refused}
use Rattle.verify.specs.Transfer.{pointer_stored, stored}
use Rattle.absval.specs.declared.value.AbsVal.TheVariants.{Unset, Number, Pointer}

window_refused : (o : Option Window) → result_err (ok_or o Bounds) ≡ write_refused Stack o
window_refused None = refl
window_refused (Some w) = refl

-- A window that may leave the stack is rejected.
pub stack_refused : (region : Region) (r : Result Window Reason) (low high distance x : ℤ) (size : ℕ) → region ≡ Stack → x ≡ distance → r ≡ ok_or (window_known Stack low high x size) Bounds →
    result_err r ≡ write_refused region (window_known region low high distance size)
stack_refused region r low high distance x size e f g = rw (g, f, e) (window_refused (window_known Stack low high distance size))

-- ---- cells that are bytes

bytes_all : (bytes : List Bool) (place n : ℕ) → ((k : ℕ) → place ≤ k → k < place + n → byte_at bytes k ≡ true) → all_bytes bytes place n ≡ true
bytes_all bytes place zero h = refl
bytes_all bytes place (suc n) h =
    ap₂ (λ (a b : Bool). a && b) (h place (omega arith) (omega arith)) (bytes_all bytes (suc place) n (λ k ge lt. h k (omega arith) (omega arith)))

all_each : (bytes : List Bool) (place n i : ℕ) → all_bytes bytes place n ≡ true → i < n → byte_at bytes (place + i) ≡ true
all_each bytes place zero i e lt = absurd (omega arith)
all_each bytes place (suc n) zero e lt =
    let same : place ≡ place + 0 = omega arith in
    subst (λ (k : ℕ). byte_at bytes k ≡ true) same (and_parts (byte_at bytes place) (all_bytes bytes (suc place) n) e).0
all_each bytes place (suc n) (suc i) e lt =
    let same : suc place + i ≡ place + suc i = omega arith in
    subst (λ (k : ℕ). byte_at bytes k ≡ true) same (all_each bytes (suc place) n i (and_parts (byte_at bytes place) (all_bytes bytes (suc place) n) e).1 (omega arith))

bytes_each : (bytes : List Bool) (place n : ℕ) → all_bytes bytes place n ≡ true → (k : ℕ) → place ≤ k → k < place + n → byte_at bytes k ≡ true
bytes_each bytes place n e k ge lt =
    let same : place + (k - place) ≡ k = omega arith in
    subst (λ (j : ℕ). byte_at bytes j ≡ true) same (all_each bytes place n (k - place) e (omega arith))

-- Testing all cells gives the reason of the definition.
pub bytes_tested : (b : Bool) (bytes : List Bool) (place n : ℕ) → IsTrue b ↔ ((k : ℕ) → place ≤ k → k < place + n → byte_at bytes k ≡ true) → all_bytes bytes place n ≡ b
bytes_tested b bytes place n tests = by_test (all_bytes bytes place n) b refl refl
  where
    by_test : (a c : Bool) → a ≡ all_bytes bytes place n → c ≡ b → a ≡ c
    by_test true true e f = refl
    by_test false false e f = refl
    by_test true false e f = absurd (let holds : b ≡ true = tests.1 (bytes_each bytes place n (sym e)) in let clash = f ∙ holds in cc)
    by_test false true e f = absurd (let all : all_bytes bytes place n ≡ true = bytes_all bytes place n (tests.0 (subst IsTrue f refl)) in let clash = e ∙ all in cc)

pub stack_checked : (b : Bool) (known : Known) (region : Region) (w : Window) → region ≡ Stack → all_bytes known.bytes w.place w.size ≡ b → (if b then None else Some StackUnset) ≡ unset_in known region w
stack_checked b known region w e f = rw (e, f) refl

-- A load from the stack that finds no pointer.
pub number_from_stack : (known : Known) (size : Size) (w : Window) (b : Bool) → None ≡ spilled known size w → all_bytes known.bytes w.place w.size ≡ b →
    unless (if b then None else Some StackUnset) (loaded_known size) ≡ stack_given known size w
number_from_stack known size w b e f = ap₂ (λ (o : Option AbsVal) (t : Bool). pointer_or o (unless (if t then None else Some StackUnset) (loaded_known size))) e (sym f)

-- The pointer that is found is the base.
pub pointer_found : (base : AbsVal) (region : Region) (offsets : Offsets) → Ok (region, offsets) ≡ pointer_in base → base ≡ Pointer region offsets
pointer_found Unset region offsets e = absurd cc
pointer_found (Number numbers) region offsets e = absurd cc
pointer_found (Pointer other at) region offsets e =
    let same : (region, offsets) ≡ (other, at) = cc in ap (λ (p : Region × Offsets). Pointer p.0 p.1) (sym same)

-- A window that may leave its region.
pub load_out : (known : Known) (size : Size) (region other : Region) (low high distance x : ℤ) (n : ℕ) (reason : Reason) → region ≡ other → x ≡ distance → n ≡ bytes_of size →
    Err reason ≡ ok_or (window_known other low high x n) Bounds → Err reason ≡ load_from known size region (window_known region low high distance (bytes_of size))
load_out known size region other low high distance x n reason e f g h = rw e (by_window (window_known other low high distance (bytes_of size)) (rw (f, g) at h))
  where
    by_window : (o : Option Window) → Err reason ≡ ok_or o Bounds → Err reason ≡ load_from known size other o
    by_window None k = let same : reason ≡ Bounds = cc in rw same refl
    by_window (Some w) k = absurd cc

-- A window within its region.
window_there : (o : Option Window) (w : Window) → Ok w ≡ ok_or o Bounds → o ≡ Some w
window_there None w e = absurd cc
window_there (Some v) w e = let same : w ≡ v = cc in ap Some (sym same)

pub given_by_stack : (known : Known) (size : Size) (region : Region) (low high distance x : ℤ) (n : ℕ) (w : Window) (given : Result AbsVal Reason) → region ≡ Stack → x ≡ distance → n ≡ bytes_of size →
    Ok w ≡ ok_or (window_known Stack low high x n) Bounds → given ≡ stack_given known size w → given ≡ load_from known size region (window_known region low high distance (bytes_of size))
given_by_stack known size region low high distance x n w given e f g h v =
    let there : window_known Stack low high distance (bytes_of size) ≡ Some w = window_there (window_known Stack low high distance (bytes_of size)) w (rw (f, g) at h) in
    rw e (v ∙ ap (load_from known size Stack) (sym there))

pub signed_load_out : (known : Known) (part : Narrow) (base : AbsVal) (region : Region) (offsets : Offsets) (distance x : ℤ) (n : ℕ) (reason : Reason) → base ≡ Pointer region offsets → x ≡ distance → n ≡ part_bytes part →
    Err reason ≡ ok_or (window_known region offsets.0 offsets.1 x n) Bounds → Err reason ≡ signed_load_given known part base distance
signed_load_out known part base region offsets distance x n reason e f g h = rw e (by_window (window_known region offsets.0 offsets.1 distance (part_bytes part)) (rw (f, g) at h))
  where
    by_window : (o : Option Window) → Err reason ≡ ok_or o Bounds → Err reason ≡ signed_from known region o
    by_window None k = let same : reason ≡ Bounds = cc in rw same refl
    by_window (Some w) k = absurd cc

-- ---- stores

-- What is known after a pointer is stored, or why it is rejected.
pub pointer_left : (size : Size) (base value : AbsVal) (found other : Region × Offsets) (x distance : ℤ) (known new : Known) (r : Result (Unit {0}) Reason) →
    Ok found ≡ pointer_in base → value ≡ Pointer other.0 other.1 → x ≡ distance →
    outcome r new ≡ unless (pointer_refused size found.0 found.1 x other.1) (pointer_stored other.0 other.1.0 (window_known found.0 found.1.0 found.1.1 x 8) known) →
    outcome r new ≡ unless (store_refused size base distance value) (stored size base distance value known)
pointer_left size base value found other x distance known new r p v f h =
    let pointer : base ≡ Pointer found.0 found.1 = pointer_found base found.0 found.1 p in
    rw (pointer, v) (rw f at h)
