-- What is known at the first units of a program, and at one unit more.
use Rattle.std.proofs.Common.{◌≡◌, ◌∙◌, ℕ, suc, ◌+◌, ◌<◌, ◌≤◌, List, [], ◌∷◌, ◌++◌, Option, Some, None, Result, Ok, Err, refl, ap, sym, subst, length, arith, ⊎_elim}
use Rattle.std.specs.Prelude.{is_none, option_map, slice_get, slice_index_or, if◌then◌else◌}
use Rattle.std.specs.Result.{result_ok, result_err}
use Rattle.std.proofs.lemmas.Bool.{cases_lt}
use Rattle.std.proofs.lemmas.List.{get_or_append_left, length-append}
use Rattle.std.proofs.lemmas.Option.{slice_get-get_or, slice_get_past}
use Rattle.std.proofs.Math.Seq.{get_or-append_seam}
use Rattle.insn.specs.declared.insn.Insn.{Insn}
use Rattle.insn.specs.Program.{slots_of}
use Rattle.verify.specs.declared.error.VerifyError.{VerifyError}
use Rattle.verify.specs.declared.error.VerifyError.TheVariants.{At, Memory}
use Rattle.verify.specs.declared.reason.Reason.{Reason}
use Rattle.verify.specs.declared.state.AbsState.{AbsState}
use Rattle.verify.specs.Structure.{structural_fault}
use Rattle.verify.specs.Judgement.{KnownSoFar, reached_at, passed_to}
use Rattle.verify.specs.Passes.{Answers}
use Rattle.verify.specs.KnownAtUnits.{known_on_the_pass, known_before, IsSurvey}
use Rattle.verify.proofs.PassLaws.{stays, judged_pass, structural_judged}

-- There is a state for each of these units, and it is what is known there.
abbrev pub AreKnown : List Insn → List (Option AbsState) → Type 0
AreKnown program states = (unit : ℕ) → unit < length states → slice_get states unit ≡ known_on_the_pass program unit

pub on_the_pass : (program : List Insn) (unit : ℕ) (r : Result KnownSoFar VerifyError) → passed_to program unit ≡ r → known_on_the_pass program unit ≡ option_map (λ (reached : KnownSoFar). reached_at reached unit) (result_ok r)
on_the_pass program unit r e = ap (λ (x : Result KnownSoFar VerifyError). option_map (λ (reached : KnownSoFar). reached_at reached unit) (result_ok x)) e

pub none_known : (program : List Insn) (states : List (Option AbsState)) → states ≡ [] → AreKnown program states
none_known program states e unit lt = absurd (let none : length states ≡ 0 = ap (λ (s : List (Option AbsState)). length s) e in omega (arith, lt, none))

-- One more unit.
pub known_more : (program : List Insn) (states : List (Option AbsState)) (pending : KnownSoFar) (here : Option AbsState) (unit : ℕ) → AreKnown program states → length states ≡ unit →
    passed_to program unit ≡ Ok pending → here ≡ reached_at pending unit → AreKnown program (states ++ here ∷ [])
known_more program states pending here unit known e comes same v h = ⊎_elim before last (cases_lt v (length states))
  where
    all : List (Option AbsState)
    all = states ++ here ∷ []

    before : v < length states → slice_get all v ≡ known_on_the_pass program v
    before lt =
        (slice_get-get_or all v None h ∙ (ap (λ (o : Option AbsState). Some o) (get_or_append_left states (here ∷ []) None v lt) ∙ sym (slice_get-get_or states v None lt)))
        ∙ known v lt

    last : length states ≤ v → slice_get all v ≡ known_on_the_pass program v
    last le =
        let more = length-append states (here ∷ []) in
        let at : v ≡ length states = omega (arith, h, more) in
        (slice_get-get_or all v None h ∙ ap (λ (o : Option AbsState). Some o) (ap (λ (n : ℕ). slice_index_or all n None) at ∙ get_or-append_seam states here [] None))
        ∙ (ap (λ (o : Option AbsState). Some o) (same ∙ ap (reached_at pending) (sym (at ∙ e)))
        ∙ sym (on_the_pass program v (Ok pending) (ap (passed_to program) (at ∙ e) ∙ comes)))

-- The program has no structural fault.
pub before_is : (program : List Insn) (unit : ℕ) → structural_fault program ≡ None → known_before program unit ≡ known_on_the_pass program unit
before_is program unit none = ap (λ (o : Option VerifyError). if is_none o then known_on_the_pass program unit else None) none

-- The pass reaches the end.
pub survey_through : (program : List Insn) (states : List (Option AbsState)) (pending : KnownSoFar) (unit : ℕ) → structural_fault program ≡ None → AreKnown program states → length states ≡ unit →
    unit ≡ length (slots_of program) → passed_to program unit ≡ Ok pending → IsSurvey program states None
survey_through program states pending unit none known e all comes = record {
  known = λ v lt. known v (omega (arith, lt, e, all)) ∙ sym (before_is program v none);
  room = omega (arith, e, all);
  fault_is = sym (judged_pass program none ∙ ap result_err (ap (passed_to program) (sym all) ∙ comes));
}

-- The pass stops at the last of these units.
pub survey_stopped : (program : List Insn) (states : List (Option AbsState)) (unit : ℕ) (fault : VerifyError) → structural_fault program ≡ None → AreKnown program states → length states ≡ unit + 1 →
    unit < length (slots_of program) → passed_to program (suc unit) ≡ Err fault → IsSurvey program states (Some fault)
survey_stopped program states unit fault none known e lt stops = record {
  known = λ v inside. ⊎_elim (λ before. known v before) (λ past. behind v past) (cases_lt v (length states)) ∙ sym (before_is program v none);
  room = omega (arith, e, lt);
  fault_is = sym (judged_pass program none ∙ ap result_err (stays program fault (suc unit) (length (slots_of program)) (omega (arith, lt)) stops));
}
  where
    behind : (v : ℕ) → length states ≤ v → slice_get states v ≡ known_on_the_pass program v
    behind v past = (slice_get_past states v past) ∙ sym (on_the_pass program v (Err fault) (stays program fault (suc unit) v (omega (arith, e, past)) stops))

-- The fault is one of the structure.
pub survey_structural : (program : List Insn) (states : List (Option AbsState)) (fault : VerifyError) → states ≡ [] → structural_fault program ≡ Some fault → IsSurvey program states (Some fault)
survey_structural program states fault empty some =
    subst (λ (s : List (Option AbsState)). IsSurvey program s (Some fault)) (sym empty) (record {
      known = λ v lt. (slice_get_past [] v (omega arith)) ∙ sym (ap (λ (o : Option VerifyError). if is_none o then known_on_the_pass program v else None) some);
      room = omega arith;
      fault_is = sym (structural_judged program fault some);
    })

-- A fault that is not out of memory is the wanted one.
fault_in : (wanted : Result KnownSoFar VerifyError) (reason : Reason) (unit : ℕ) → result_err wanted ≡ Some (At reason unit) → wanted ≡ Err (At reason unit)
fault_in (Ok reached) reason unit e = absurd cc
fault_in (Err fault) reason unit e = let same : fault ≡ At reason unit = cc in ap (λ (f : VerifyError). Err f) same

pub stops_so : (wanted : Result KnownSoFar VerifyError) (fault : VerifyError) → (fault ≡ Memory → ⊥) → Answers (result_err wanted) (Err fault) → wanted ≡ Err fault
stops_so wanted Memory named h = absurd (named refl)
stops_so wanted (At reason unit) named h = fault_in wanted reason unit h
