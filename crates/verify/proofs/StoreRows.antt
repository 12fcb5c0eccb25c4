-- A store that is not rejected succeeds, and what is known afterwards is true.
use Rattle.std.proofs.Common.{◌≡◌, ◌∙◌, ℕ, ℤ, ◌+◌, ◌≤◌, List, length, Bool, true, false, Option, Some, None, IfSome, refl, sym, subst, arith}
use Rattle.std.specs.Prelude.{◌==◌, if◌then◌else◌}
use Rattle.std.specs.Ordering.{int_eq}
use Rattle.std.proofs.lemmas.Bool.{eqb-true, and_parts}
use Rattle.std.proofs.lemmas.Bool.Decides.{Decides-int_eq}
use Rattle.insn.specs.declared.insn.Size.{Size}
use Rattle.insn.specs.declared.insn.Size.TheVariants as size
use Rattle.insn.specs.Insn.{bytes_of}
use Rattle.semantics.specs.declared.value.Region.{Region}
use Rattle.semantics.specs.declared.value.Region.TheVariants.{Stack, Context}
use Rattle.semantics.specs.declared.value.Value.{Value}
use Rattle.semantics.specs.declared.value.Value.TheVariants as value
use Rattle.semantics.specs.declared.value.Cell.{Cell}
use Rattle.semantics.specs.Memory.{overwritten, pieces_of, stored}
use Rattle.absval.specs.declared.number_set.NumberSet.{NumberSet}
use Rattle.absval.specs.declared.windows.Window.{Window}
use Rattle.absval.specs.Windows.{window_known}
use Rattle.absmem.specs.Known.{Known}
use Rattle.absmem.specs.Describes.{Describes as StackDescribes}
use Rattle.absval.specs.Contains.{Contains}
use Rattle.verify.specs.declared.reason.Reason.{Reason}
use Rattle.verify.specs.declared.reason.Reason.TheVariants.{PointerUse}
use Rattle.verify.specs.MemoryTable.{is_storable, write_refused, store_refused}
use Rattle.verify.proofs.Stores.{Leads}
use Rattle.absmem.specs.Stacks.{put_bytes, spread_bytes, put_pointer}
use Rattle.verify.specs.Transfer.{number_stored, pointer_stored}
use Rattle.verify.specs.Transfer as transfer
use Rattle.verify.proofs.StoreLemmas.{stores_lead, bytes_lead, pieces_lead, number_lead}
use Rattle.range.proofs.RangeRows.{by_test}
use Rattle.absval.proofs.WindowRows.{IsWindow, window_is, one_wide}
use Rattle.absmem.proofs.StackRows.{put_described, spread_described, pointer_described}
use Rattle.absval.specs.declared.value.AbsVal.TheVariants.{Unset, Number, Pointer}
use Rattle.absval.specs.declared.value.AbsVal.{AbsVal}

-- A window that may be written is within the stack.
abbrev pub Written : Region → Option Window → Type 0
Written region o = (region ≡ Stack) × (w : Window) × (o ≡ Some w)

pub written_of : (region : Region) (o : Option Window) → write_refused region o ≡ None → Written region o
written_of Context o e = cc
written_of Stack None e = cc
written_of Stack (Some w) e = (refl, w, refl)

pub there_is : (region : Region) (low high distance : ℤ) (n : ℕ) (w : Window) → region ≡ Stack → window_known region low high distance n ≡ Some w → IsWindow Stack low high distance n w
there_is region low high distance n w e f =
    subst (λ (r : Region). IsWindow r low high distance n w) e
    (subst (λ (o : Option Window). IfSome o (IsWindow region low high distance n)) f (window_is region low high distance n))

-- ---- numbers

number_leads : (known : Known) (w : Window) (at : ℤ × ℤ) (distance : ℤ) (n : ℕ) (numbers : NumberSet) (cells : List Cell) (p v : Value) → StackDescribes known cells → length cells ≡ 512 →
    length known.bytes ≡ 512 → Contains (Pointer Stack at) p → Contains (Number numbers) v → IsWindow Stack at.0 at.1 distance n w →
    Leads (number_stored n (Some w) known) (stored cells n p distance v)
number_leads known w at distance n numbers cells p v d long flags h k there =
    let fits : w.place + w.size ≤ 512 = there.fits in
    by_test (λ (left : Known). Leads left (stored cells n p distance v)) (w.size == n) (put_bytes w.place w.size known) (spread_bytes w.place w.size known)
    (λ t. let same : w.size ≡ n = eqb-true w.size n t in
    number_lead (put_bytes w.place w.size known) numbers cells n p v distance k
    (λ m. stores_lead (put_bytes w.place w.size known) Stack at.0 at.1 distance w.place w.size n cells p (value.Number m) refl h there.lies
    (λ place ge le. bytes_lead (put_bytes w.place w.size known) cells place n m long (omega arith)
    (λ new are size. let here : w.place ≡ place = omega arith in
    subst (λ (i : ℕ). StackDescribes (put_bytes w.place w.size known) (overwritten cells i new)) here (put_described known w cells new fits flags long are (size ∙ sym same) d)))))
    (λ f. number_lead (spread_bytes w.place w.size known) numbers cells n p v distance k
    (λ m. stores_lead (spread_bytes w.place w.size known) Stack at.0 at.1 distance w.place w.size n cells p (value.Number m) refl h there.lies
    (λ place ge le. bytes_lead (spread_bytes w.place w.size known) cells place n m long (omega arith)
    (λ new are size. spread_described known w cells new place fits flags long are ge (omega arith) d))))

-- ---- pointers

storable : (s : Size) (at kept : ℤ × ℤ) → is_storable s at kept ≡ true → (s ≡ size.Double) × (at.0 ≡ at.1) × (kept.0 ≡ kept.1)
storable size.Byte at kept e = cc
storable size.Half at kept e = cc
storable size.Word at kept e = cc
storable size.Double at kept e =
    let parts = and_parts (int_eq at.0 at.1) (int_eq kept.0 kept.1) e in
    (refl, (Decides-int_eq at.0 at.1).0 parts.0, (Decides-int_eq kept.0 kept.1).0 parts.1)

may_store : (t : Bool) (o : Option Reason) → (if t then o else Some PointerUse) ≡ None → (t ≡ true) × (o ≡ None)
may_store true o e = (refl, e)
may_store false o e = cc

pointer_leads : (known : Known) (w : Window) (at kept : ℤ × ℤ) (other : Region) (distance : ℤ) (cells : List Cell) (p v : Value) → StackDescribes known cells → length cells ≡ 512 →
    length known.bytes ≡ 512 → Contains (Pointer Stack at) p → Contains (Pointer other kept) v → at.0 ≡ at.1 → kept.0 ≡ kept.1 → IsWindow Stack at.0 at.1 distance 8 w →
    Leads (pointer_stored other kept.0 (Some w) known) (stored cells 8 p distance v)
pointer_leads known w at kept other distance cells p v d long flags h k one same there =
    let fits : w.place + w.size ≤ 512 = there.fits in
    let wide : w.size ≡ 8 = one_wide Stack at.0 at.1 distance 8 w there one in
    stores_lead (put_pointer w.place other kept.0 known) Stack at.0 at.1 distance w.place w.size 8 cells p v refl h there.lies
    (λ place ge le. pieces_lead (put_pointer w.place other kept.0 known) cells place other kept.0 kept.1 v same long (omega arith) k
    (let here : w.place ≡ place = omega arith in
    subst (λ (i : ℕ). StackDescribes (put_pointer w.place other kept.0 known) (overwritten cells i (pieces_of other kept.0))) here
    (pointer_described known w.place other kept.0 cells (omega arith) flags long d)))

-- ---- stores

pub store_leads : (known : Known) (s : Size) (base : AbsVal) (distance : ℤ) (value : AbsVal) (cells : List Cell) (p v : Value) → store_refused s base distance value ≡ None → StackDescribes known cells →
    length cells ≡ 512 → length known.bytes ≡ 512 → Contains base p → Contains value v → Leads (transfer.stored s base distance value known) (stored cells (bytes_of s) p distance v)
store_leads known s Unset distance value cells p v none d long flags h k = absurd cc
store_leads known s (Number n) distance value cells p v none d long flags h k = absurd cc
store_leads known s (Pointer region at) distance Unset cells p v none d long flags h k = absurd cc
store_leads known s (Pointer region at) distance (Number n) cells p v none d long flags h k =
    let found = written_of region (window_known region at.0 at.1 distance (bytes_of s)) none in
    let stack = subst (λ (r : Region). Contains (Pointer r at) p) found.0 h in
    subst (λ (o : Option Window). Leads (number_stored (bytes_of s) o known) (stored cells (bytes_of s) p distance v)) (sym found.2)
    (number_leads known found.1 at distance (bytes_of s) n cells p v d long flags stack k (there_is region at.0 at.1 distance (bytes_of s) found.1 found.0 found.2))
store_leads known s (Pointer region at) distance (Pointer other kept) cells p v none d long flags h k =
    let may = may_store (is_storable s at kept) (write_refused region (window_known region at.0 at.1 distance 8)) none in
    let whole = storable s at kept may.0 in
    let found = written_of region (window_known region at.0 at.1 distance 8) may.1 in
    let stack = subst (λ (r : Region). Contains (Pointer r at) p) found.0 h in
    subst (λ (t : Size). Leads (pointer_stored other kept.0 (window_known region at.0 at.1 distance 8) known) (stored cells (bytes_of t) p distance v)) (sym whole.0)
    (subst (λ (o : Option Window). Leads (pointer_stored other kept.0 o known) (stored cells 8 p distance v)) (sym found.2)
    (pointer_leads known found.1 at kept other distance cells p v d long flags stack k whole.1 whole.2 (there_is region at.0 at.1 distance 8 found.1 found.0 found.2)))
