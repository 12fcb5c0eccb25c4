-- What is known after stores.
use Rattle.std.proofs.Common.{◌≡◌, ◌∙◌, ℕ, zero, suc, ◌+◌, ◌≤◌, List, map, length, Result, Ok, Err, refl, sym, ap, subst, arith}
use Rattle.std.specs.Prelude.{ℤ, ◌≤ℤ◌, ◌+ℤ◌}
use Rattle.std.proofs.lemmas.Int.{ints}
use Rattle.std.specs.Int.{bytes_low_first}
use Rattle.word.specs.Bytes.{little_bytes}
use Rattle.semantics.specs.declared.value.Region.{Region}
use Rattle.semantics.specs.declared.value.Region.TheVariants.{Stack, Context}
use Rattle.semantics.specs.declared.value.Value.{Value}
use Rattle.semantics.specs.declared.value.Value.TheVariants as value
use Rattle.semantics.specs.declared.value.Cell.{Cell}
use Rattle.semantics.specs.declared.value.Cell.TheVariants.{Byte}
use Rattle.semantics.specs.State.{Cause, State, given}
use Rattle.semantics.specs.Step.{changed}
use Rattle.semantics.specs.Memory.{window, cells_of, overwritten, pieces_of, stored}
use Rattle.semantics.proofs.WordLaws.{byte_fits}
use Rattle.absval.specs.Contains.{IsNumberOf, IsPointerIn}
use Rattle.absval.specs.declared.number_set.NumberSet.{NumberSet}
use Rattle.absval.specs.Windows.{LiesIn}
use Rattle.absmem.specs.Known.{Known}
use Rattle.absmem.specs.Describes.{Describes as StackDescribes, AreBytes}
use Rattle.absmem.proofs.Overwriting.{length-overwritten}
use Rattle.verify.specs.declared.state.AbsState.{AbsState}
use Rattle.verify.specs.Describes.{RegistersDescribe}
use Rattle.verify.proofs.Outcomes.{GoesOn}
use Rattle.verify.proofs.Stores.{Leads}
use Rattle.absval.proofs.WindowRows.{Lies}

pub low_bytes : (from size n : ℕ) → AreBytes (map Byte (bytes_low_first from size n))
low_bytes from zero n k l = absurd (omega arith)
low_bytes from (suc size) n zero l = byte_fits from n
low_bytes from (suc size) n (suc k) l = low_bytes (suc from) size n k (omega arith)

pub length-low : (from size n : ℕ) → length (map Byte (bytes_low_first from size n)) ≡ size
length-low from zero n = refl
length-low from (suc size) n = ap suc (length-low (suc from) size n)

-- What is known describes the stack after a store at each place that the pointer may mean.
pub stores_lead : (known : Known) (region : Region) (low high distance : ℤ) (first total size : ℕ) (cells : List Cell) (p v : Value) → region ≡ Stack → IsPointerIn region low high p →
    Lies Stack low high distance first total size →
    ((at : ℕ) → first ≤ at → at + size ≤ first + total → Leads known (given (cells_of size v) (λ new. Ok (overwritten cells at new)))) →
    Leads known (stored cells size p distance v)
stores_lead known region low high distance first total size cells value.Unset v e p lies leads = absurd p
stores_lead known region low high distance first total size cells (value.Number n) v e p lies leads = absurd p
stores_lead known region low high distance first total size cells (value.Pointer Context o) v e p lies leads = absurd (let same = p.0 ∙ e in cc)
stores_lead known region low high distance first total size cells (value.Pointer Stack o) v e p lies leads =
    by_window (window Stack (o +ℤ distance) size) (lies o p.1 p.2)
  where
    by_window : (w : Result ℕ Cause) → LiesIn first total size w → Leads known (given w (λ at. given (cells_of size v) (λ new. Ok (overwritten cells at new))))
    by_window (Ok at) h = leads at h.0 h.1
    by_window (Err cause) h = absurd h

-- Bytes are stored in a stack of 512 cells.
pub bytes_lead : (known : Known) (cells : List Cell) (at size n : ℕ) → length cells ≡ 512 → at + size ≤ 512 →
    ((new : List Cell) → AreBytes new → length new ≡ size → StackDescribes known (overwritten cells at new)) →
    Leads known (given (cells_of size (value.Number n)) (λ new. Ok (overwritten cells at new)))
bytes_lead known cells at size n long fits holds =
    let new = map Byte (little_bytes size n) in
    let e : length new ≡ size = length-low 0 size n in
    (holds new (low_bytes 0 size n) e, length-overwritten cells new at (omega arith) ∙ long)

one_between : (low high o : ℤ) → low ≡ high → low ≤ℤ o → o ≤ℤ high → low ≡ o
one_between low high o e p q = omega (arith, ints)

-- A pointer is stored there.
pub pieces_lead : (known : Known) (cells : List Cell) (at : ℕ) (region : Region) (low high : ℤ) (v : Value) → low ≡ high → length cells ≡ 512 → at + 8 ≤ 512 → IsPointerIn region low high v →
    StackDescribes known (overwritten cells at (pieces_of region low)) → Leads known (given (cells_of 8 v) (λ new. Ok (overwritten cells at new)))
pieces_lead known cells at region low high value.Unset e long fits p holds = absurd p
pieces_lead known cells at region low high (value.Number n) e long fits p holds = absurd p
pieces_lead known cells at region low high (value.Pointer other o) e long fits p holds =
    let same : low ≡ o = one_between low high o e p.1 p.2 in
    let room : at + 8 ≤ length cells = omega (arith, long, fits) in
    subst (λ (reg : Region). StackDescribes known (overwritten cells at (pieces_of reg o)) × (length (overwritten cells at (pieces_of reg o)) ≡ 512)) (sym p.0)
    (subst (λ (z : ℤ). StackDescribes known (overwritten cells at (pieces_of region z))) same holds, length-overwritten cells (pieces_of region o) at room ∙ long)

-- If a number is stored, its range does not matter.
pub number_lead : (known : Known) (numbers : NumberSet) (cells : List Cell) (size : ℕ) (p v : Value) (distance : ℤ) → IsNumberOf numbers v → ((n : ℕ) → Leads known (stored cells size p distance (value.Number n))) →
    Leads known (stored cells size p distance v)
number_lead known numbers cells size p value.Unset distance h leads = absurd h
number_lead known numbers cells size p (value.Number n) distance h leads = leads n
number_lead known numbers cells size p (value.Pointer region o) distance h leads = absurd h

-- The program continues after a store.
pub store_goes : (a : AbsState) (s : State) (r : Result (List Cell) Cause) → RegistersDescribe a.registers s.registers → Leads a.stack r → GoesOn a (s.unit + 1) (changed s r)
store_goes a s (Ok cells) d h = (refl, record { registers = d; stack = h.0; size = h.1 })
store_goes a s (Err cause) d h = absurd h
