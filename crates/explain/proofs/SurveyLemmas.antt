-- What `known_at_units` returns is what the verifier knows at each unit.
use Rattle.std.proofs.Common.{◌≡◌, ◌∙◌, ℕ, List, [], ◌++◌, length, Bool, true, false, refl, arith, ap, ap₂, Option, None}
use Rattle.std.specs.Prelude.{nat_lt, slice_get, if◌then◌else◌}
use Rattle.std.proofs.lemmas.Bool.{ltb-true, ltb-false}
use Rattle.std.proofs.lemmas.Option.{slice_get_past}
use Rattle.insn.specs.declared.insn.Insn.{Insn}
use Rattle.insn.specs.Program.{slots_of}
use Rattle.verify.specs.declared.error.VerifyError.{VerifyError}
use Rattle.verify.specs.declared.state.AbsState.{AbsState}
use Rattle.verify.specs.KnownAtUnits.{known_before, IsSurvey}
use Rattle.reaching.specs.Marks.{KnownByUnit}
use Rattle.explain.specs.Units.{Writing}
use Rattle.explain.specs.Explained.{known_lines, refused_text, lines_by, known_in, explained_at}

module _ (written : Writing) (program : List Insn) (states : List (Option AbsState)) (fault : Option VerifyError) (survey : IsSurvey program states fault) where
  at_unit : (unit : ℕ) → slice_get states unit ≡ known_in program unit
  at_unit unit = by_test (nat_lt unit (length (slots_of program))) refl
    where
      by_test : (t : Bool) → nat_lt unit (length (slots_of program)) ≡ t → slice_get states unit ≡ (if t then known_before program unit else None)
      by_test true e = survey.known unit (ltb-true unit (length (slots_of program)) e)
      by_test false e = slice_get_past states unit (omega (arith, survey.room, ltb-false unit (length (slots_of program)) e))

  -- The returned states are what is known.
  same_known : slice_get states ≡ known_in program
  same_known = λ i unit. at_unit unit i

  -- The lines made from the returned states are those of the program.
  pub survey_explained : lines_by written (slice_get states) program fault ≡ explained_at written program
  survey_explained = ap₂ (λ (known : KnownByUnit) (why : Option VerifyError). lines_by written known program why) same_known survey.fault_is

-- A text that grows by these lines, from the empty text.
pub told_whole : (written : Writing) (program : List Insn) (states shown : List (Option AbsState)) (fault : Option VerifyError) (start middle last : List ℕ) → IsSurvey program states fault
    → shown ≡ states → start ≡ [] → middle ≡ start ++ known_lines written program (slice_get shown) fault 0 program → last ≡ middle ++ refused_text written (slice_get shown) program fault
    → last ≡ explained_at written program
told_whole written program states shown fault start middle last survey same empty first second =
    second
    ∙ (ap (λ (text : List ℕ). text ++ refused_text written (slice_get shown) program fault)
    (first ∙ ap (λ (before : List ℕ). before ++ known_lines written program (slice_get shown) fault 0 program) empty)
    ∙ (ap (λ (s : List (Option AbsState)). lines_by written (slice_get s) program fault) same ∙ survey_explained written program states fault survey))
