-- Each rejection of an access has a sentence: it leaves its region, reads a cell that may hold no byte, or stores to
-- the context.
use Rattle.std.proofs.Common.{◌≡◌, ℕ, zero, suc, List, Bool, true, false, Option, Some, None, refl, sym, subst}
use Rattle.std.specs.Prelude.{◌&&◌, ◌==◌, IsSome, option_map, option_and_then, if◌then◌else◌}
use Rattle.std.specs.Result.{result_err}
use Rattle.insn.specs.declared.insn.Insn.{Insn}
use Rattle.semantics.specs.declared.value.Region.{Region}
use Rattle.semantics.specs.declared.value.Region.TheVariants.{Stack, Context}
use Rattle.absval.specs.declared.value.Offsets.{Offsets}
use Rattle.absval.specs.declared.value.AbsVal.{AbsVal}
use Rattle.absval.specs.declared.value.AbsVal.TheVariants.{Pointer}
use Rattle.absval.specs.declared.windows.Window.{Window}
use Rattle.absval.specs.Windows.{window_known}
use Rattle.absmem.specs.Known.{Known, byte_at}
use Rattle.verify.specs.declared.reason.Reason.{Reason}
use Rattle.verify.specs.declared.reason.Reason.TheVariants as reason
use Rattle.verify.specs.declared.state.AbsState.{AbsState}
use Rattle.verify.specs.Registers.{known_at}
use Rattle.verify.specs.Reasons.{unless}
use Rattle.verify.specs.MemoryTable.{all_bytes, unset_in, write_refused, frame_or}
use Rattle.verify.specs.Calls.{source_reason}
use Rattle.explain.specs.declared.reach.Reach.{Reach}
use Rattle.explain.specs.declared.sentence.Sentence.{Sentence}
use Rattle.explain.specs.Shortfalls.{reach_of, outside, first_empty, empty_in, empty_cell, context_written, shortfall}
use Rattle.explain.proofs.RegistersTold.{Told}

-- ---- sentences about an access

told_by : (tells : Reach → AbsVal → Option Sentence) (registers : List AbsVal) (o : Option Reach) (reach : Reach) → o ≡ Some reach → IsSome (tells reach (known_at registers reach.base)) →
    IsSome (option_and_then (λ (x : Reach). tells x (known_at registers x.base)) o)
told_by tells registers o reach e h = subst (λ (p : Option Reach). IsSome (option_and_then (λ (x : Reach). tells x (known_at registers x.base)) p)) (sym e) h

outside_told : (reach : Reach) (value : AbsVal) (region : Region) (o : Offsets) → value ≡ Pointer region o → IsSome (outside reach value)
outside_told reach value region o e = subst (λ (v : AbsVal). IsSome (outside reach v)) (sym e) refl

-- An instruction accesses this memory, and its base is known to be this pointer.
pub record Accesses (i : Insn) (a : AbsState) (reach : Reach) (region : Region) (o : Offsets) : Type 0 where
  pub by : reach_of i a.registers ≡ Some reach
  pub base_is : known_at a.registers reach.base ≡ Pointer region o

pub bounds_told : (i : Insn) (a : AbsState) (reach : Reach) (region : Region) (o : Offsets) → Accesses i a reach region o → IsSome (shortfall reason.Bounds i a)
bounds_told i a reach region o h = told_by outside a.registers (reach_of i a.registers) reach h.by (outside_told reach (known_at a.registers reach.base) region o h.base_is)

context_told : (i : Insn) (a : AbsState) (reach : Reach) (region : Region) (o : Offsets) → Accesses i a reach region o → IsSome (shortfall reason.ContextWrite i a)
context_told i a reach region o h = told_by context_written a.registers (reach_of i a.registers) reach h.by refl

-- ---- cells

-- If not all cells are bytes, there is a first one that may hold no byte.
empty_found : (bytes : List Bool) (place n : ℕ) → all_bytes bytes place n ≡ false → IsSome (first_empty bytes place n)
empty_found bytes place zero h = absurd cc
empty_found bytes place (suc n) h = by_test (byte_at bytes place) h (λ e. empty_found bytes (suc place) n e)
  where
    by_test : (t : Bool) → (t && all_bytes bytes (suc place) n) ≡ false → (all_bytes bytes (suc place) n ≡ false → IsSome (first_empty bytes (suc place) n)) →
        IsSome (if t then first_empty bytes (suc place) n else Some place)
    by_test true h more = more h
    by_test false h more = refl

mapped_some : {X Y : Type 0} (f : X → Y) (o : Option X) → IsSome o → IsSome (option_map f o)
mapped_some f None h = absurd cc
mapped_some f (Some x) h = refl

empty_told : (known : Known) (reach : Reach) (value : AbsVal) (o : Offsets) (w : Window) → value ≡ Pointer Stack o → window_known Stack o.0 o.1 reach.distance reach.size ≡ Some w →
    all_bytes known.bytes w.place w.size ≡ false → IsSome (empty_cell known reach value)
empty_told known reach value o w e f h =
    subst (λ (v : AbsVal). IsSome (empty_cell known reach v)) (sym e)
    (mapped_some _ (empty_in known (window_known Stack o.0 o.1 reach.distance reach.size))
    (subst (λ (p : Option Window). IsSome (empty_in known p)) (sym f) (empty_found known.bytes w.place w.size h)))

pub cells_told : (i : Insn) (a : AbsState) (reach : Reach) (region : Region) (o : Offsets) (w : Window) → Accesses i a reach region o → window_known region o.0 o.1 reach.distance reach.size ≡ Some w →
    Told i a (unset_in a.stack region w)
cells_told i a reach Context o w h f = tt
cells_told i a reach Stack o w h f = by_test (all_bytes a.stack.bytes w.place w.size) refl
  where
    by_test : (t : Bool) → all_bytes a.stack.bytes w.place w.size ≡ t → Told i a (if t then None else Some reason.StackUnset)
    by_test true e = tt
    by_test false e = told_by (empty_cell a.stack) a.registers (reach_of i a.registers) reach h.by (empty_told a.stack reach (known_at a.registers reach.base) o w h.base_is f e)

-- ---- reads and writes

pub source_told : (i : Insn) (a : AbsState) (reach : Reach) (region : Region) (o : Offsets) (window : Option Window) → Accesses i a reach region o →
    window_known region o.0 o.1 reach.distance reach.size ≡ window → Told i a (source_reason a.stack region window)
source_told i a reach region o None h f = bounds_told i a reach region o h
source_told i a reach region o (Some w) h f = cells_told i a reach region o w h f

pub write_told : (i : Insn) (a : AbsState) (reach : Reach) (region : Region) (o : Offsets) (window : Option Window) → Accesses i a reach region o → Told i a (write_refused region window)
write_told i a reach Context o window h = context_told i a reach Context o h
write_told i a reach Stack o None h = bounds_told i a reach Stack o h
write_told i a reach Stack o (Some w) h = tt

-- ---- what is checked before

pub frame_told : (i : Insn) (a : AbsState) (dst : ℕ) (next : Option Reason) → Told i a next → Told i a (frame_or dst next)
frame_told i a dst next h = by_test (dst == 10)
  where
    by_test : (t : Bool) → Told i a (if t then Some reason.FrameWrite else next)
    by_test true = refl
    by_test false = h

pub unless_told : (i : Insn) (a : AbsState) (u : Option Reason) (numbers : AbsVal) → Told i a u → Told i a (result_err (unless u numbers))
unless_told i a None numbers h = tt
unless_told i a (Some r) numbers h = h
