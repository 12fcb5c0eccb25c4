-- Laws of the pass as a function: what it reaches, where it stops, and what `judged` says.
use Rattle.std.proofs.Common.{◌≡◌, ◌∙◌, ℕ, zero, suc, ◌+◌, ◌-◌, ◌<◌, ◌≤◌, List, length, arith, refl, sym, ap, ap₂, Option, Some, None, Result, Ok, Err}
use Rattle.std.specs.Prelude.{pos, replicate, slice_set, IsSome}
use Rattle.std.proofs.lemmas.List.{length-replicate}
use Rattle.std.specs.Result.{result_err}
use Rattle.insn.specs.declared.insn.Insn.{Insn}
use Rattle.insn.specs.Program.{slots_of, instruction_at}
use Rattle.verify.specs.declared.error.VerifyError.{VerifyError}
use Rattle.verify.specs.declared.error.VerifyError.TheVariants.{At}
use Rattle.verify.specs.declared.reason.Reason.{Reason}
use Rattle.verify.specs.declared.state.AbsState.{AbsState}
use Rattle.verify.specs.Structure.{structural_fault}
use Rattle.verify.specs.Instructions.{reason_of}
use Rattle.verify.specs.Knowledge.{at_entry}
use Rattle.verify.specs.Transfer.{edges}
use Rattle.verify.specs.Judgement.{KnownSoFar, reached_at, along, along_all, settled, passed_at, passed_on, passed_to, first_of, judged}
use Rattle.verify.specs.Passes.{reason_at, ComesThrough, IsFirstFault}
use Rattle.verify.proofs.Edges.{start_inside}
use Rattle.verify.proofs.Taken.{length-along}

-- The pass begins with the entry state.
opens : (program : List Insn) → passed_to program 0 ≡ Ok (along (pos 0, at_entry) (replicate (length (slots_of program)) None))
unfolding passed_to
opens program = refl

pub opens_so : (program : List Insn) (a : AbsState) (units : ℕ) (empty pending : KnownSoFar) → a ≡ at_entry → units ≡ length (slots_of program) → empty ≡ replicate units None →
    pending ≡ along (pos 0, a) empty → passed_to program 0 ≡ Ok pending
opens_so program a units empty pending entry e f h =
    opens program
    ∙ ap (λ (r : KnownSoFar). Ok r)
    (sym (h ∙ ap₂ (λ (b : AbsState) (r : KnownSoFar). along (pos 0, b) r) entry (f ∙ ap (λ (n : ℕ). replicate n None) e)))

pub length-opens : (program : List Insn) (pending : KnownSoFar) → passed_to program 0 ≡ Ok pending → length pending ≡ length (slots_of program)
length-opens program pending e =
    let empty : KnownSoFar = replicate (length (slots_of program)) None in
    let opened = opens program in
    let same : pending ≡ along (pos 0, at_entry) empty = cc in
    ap (λ (r : KnownSoFar). length r) same ∙ (length-along (pos 0, at_entry) empty ∙ length-replicate (length (slots_of program)) None)

-- It continues from unit to unit.
pub goes_on : (program : List Insn) (unit : ℕ) (reached : KnownSoFar) → passed_to program unit ≡ Ok reached →
    passed_to program (suc unit) ≡ passed_at unit (instruction_at program unit) (reached_at reached unit) reached
unfolding passed_to
goes_on program unit reached e = ap (passed_on program unit) e

-- After a fault, the result does not change.
stays_more : (program : List Insn) (fault : VerifyError) (unit more : ℕ) → passed_to program unit ≡ Err fault → passed_to program (more + unit) ≡ Err fault
unfolding passed_to
stays_more program fault unit zero e = let same : 0 + unit ≡ unit = omega arith in ap (passed_to program) same ∙ e
stays_more program fault unit (suc more) e =
    let next : suc more + unit ≡ suc (more + unit) = omega arith in
    ap (passed_to program) next ∙ ap (passed_on program (more + unit)) (stays_more program fault unit more e)

pub stays : (program : List Insn) (fault : VerifyError) (unit later : ℕ) → unit ≤ later → passed_to program unit ≡ Err fault → passed_to program later ≡ Err fault
stays program fault unit later le e =
    let sum : (later - unit) + unit ≡ later = omega arith in
    ap (passed_to program) (sym sum) ∙ stays_more program fault unit (later - unit) e

-- ---- the first fault

settled_at : (o : Option Reason) (unit : ℕ) (reached : KnownSoFar) (fault : VerifyError) → settled o unit reached ≡ Err fault → (reason : Reason) × (o ≡ Some reason) × (fault ≡ At reason unit)
settled_at None unit reached fault e = absurd cc
settled_at (Some reason) unit reached fault e = (reason, refl, cc)

-- A unit that is rejected has a reason.
refused_at : (unit : ℕ) (o : Option Insn) (known : Option AbsState) (reached : KnownSoFar) (fault : VerifyError) → passed_at unit o known reached ≡ Err fault →
    (reason : Reason) × (reason_at o known ≡ Some reason) × (fault ≡ At reason unit)
refused_at unit None known reached fault e = absurd cc
refused_at unit (Some i) None reached fault e = absurd cc
refused_at unit (Some i) (Some a) reached fault e = settled_at (reason_of i a) unit (along_all (edges i unit a) (slice_set reached unit None)) fault e

-- A unit that has a reason is rejected.
stopped_at : (unit : ℕ) (o : Option Insn) (known : Option AbsState) (reached : KnownSoFar) (reason : Reason) → reason_at o known ≡ Some reason → passed_at unit o known reached ≡ Err (At reason unit)
stopped_at unit None known reached reason e = absurd cc
stopped_at unit (Some i) None reached reason e = absurd cc
stopped_at unit (Some i) (Some a) reached reason e = ap (λ (o : Option Reason). settled o unit (along_all (edges i unit a) (slice_set reached unit None))) e

there_is : (o : Option Insn) (known : Option AbsState) (reason : Reason) → reason_at o known ≡ Some reason → IsSome o
there_is None known reason e = absurd cc
there_is (Some i) known reason e = refl

-- A fault that the pass returns is the first one.
pub first_fault : (program : List Insn) (fault : VerifyError) (unit : ℕ) → passed_to program unit ≡ Err fault → IsFirstFault program fault
unfolding passed_to
first_fault program fault zero e = absurd cc
first_fault program fault (suc unit) e = by_before (passed_to program unit) refl e (first_fault program fault unit)
  where
    by_before : (r : Result KnownSoFar VerifyError) → passed_to program unit ≡ r → passed_on program unit r ≡ Err fault → (passed_to program unit ≡ Err fault → IsFirstFault program fault) → IsFirstFault program fault
    by_before (Err before) comes f earlier = let same : before ≡ fault = cc in earlier (comes ∙ ap (λ (x : VerifyError). Err x) same)
    by_before (Ok reached) comes f earlier =
        let why = refused_at unit (instruction_at program unit) (reached_at reached unit) reached fault f in
        (unit, why.0, record { reached = reached; comes = comes; stops = why.1 }, why.2)

-- The first fault is what the pass returns.
first_answered : (program : List Insn) (fault : VerifyError) → IsFirstFault program fault → passed_to program (length (slots_of program)) ≡ Err fault
first_answered program fault h =
    let stop = h.2 in
    let unit = h.0 in
    let inside : unit < length (slots_of program) = start_inside program unit (there_is (instruction_at program unit) (reached_at stop.reached unit) h.1 stop.stops) in
    let here : passed_to program (suc unit) ≡ Err (At h.1 unit) =
    goes_on program unit stop.reached stop.comes ∙ stopped_at unit (instruction_at program unit) (reached_at stop.reached unit) stop.reached h.1 stop.stops in
    stays program (At h.1 unit) (suc unit) (length (slots_of program)) (omega arith) here ∙ ap (λ (f : VerifyError). Err f) (sym h.3)

-- ---- what `judged` says

first_is : (o : Option VerifyError) (r : Result KnownSoFar VerifyError) → o ≡ None → first_of o r ≡ result_err r
first_is None (Ok reached) e = refl
first_is None (Err fault) e = refl
first_is (Some fault) r e = absurd cc

-- Without a structural fault, `judged` says what the pass returns.
pub judged_pass : (program : List Insn) → structural_fault program ≡ None → judged program ≡ result_err (passed_to program (length (slots_of program)))
unfolding judged
judged_pass program none = first_is (structural_fault program) (passed_to program (length (slots_of program))) none

-- A structural fault is found first.
pub structural_judged : (program : List Insn) (fault : VerifyError) → structural_fault program ≡ Some fault → judged program ≡ Some fault
unfolding judged
structural_judged program fault e = ap (λ (o : Option VerifyError). first_of o (passed_to program (length (slots_of program)))) e

pub through_judged : (program : List Insn) → structural_fault program ≡ None → ComesThrough program → judged program ≡ None
through_judged program none h = judged_pass program none ∙ ap result_err h.1

pub stopped_judged : (program : List Insn) (fault : VerifyError) → structural_fault program ≡ None → IsFirstFault program fault → judged program ≡ Some fault
stopped_judged program fault none h = judged_pass program none ∙ ap result_err (first_answered program fault h)

through_first : (o : Option VerifyError) (r : Result KnownSoFar VerifyError) → first_of o r ≡ None → (reached : KnownSoFar) × (r ≡ Ok reached)
through_first None (Ok reached) e = (reached, refl)
through_first None (Err fault) e = absurd cc
through_first (Some fault) r e = absurd cc

-- The pass reaches the end of a program without a fault.
pub judged_through : (program : List Insn) → judged program ≡ None → ComesThrough program
unfolding judged
judged_through program e = through_first (structural_fault program) (passed_to program (length (slots_of program))) e

err_is : (r : Result KnownSoFar VerifyError) (fault : VerifyError) → result_err r ≡ Some fault → r ≡ Err fault
err_is (Ok reached) fault e = absurd cc
err_is (Err other) fault e = cc

-- A fault that is not structural is the first one of the pass.
pub judged_first : (program : List Insn) (fault : VerifyError) → structural_fault program ≡ None → judged program ≡ Some fault → IsFirstFault program fault
judged_first program fault none e =
    first_fault program fault (length (slots_of program)) (err_is (passed_to program (length (slots_of program))) fault (sym (judged_pass program none) ∙ e))
