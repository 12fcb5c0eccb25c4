-- What is written about a rejection, in its parts.
use Rattle.std.proofs.Common.{◌≡◌, ◌∙◌, ℕ, suc, ◌+◌, ◌-◌, ◌<◌, List, ◌++◌, Bool, true, false, Option, Some, Result, Ok, Err, ap, append_assoc, arith, length, subst, sym}
use Rattle.std.specs.Prelude.{OnOk, ◌==◌, if◌then◌else◌}
use Rattle.std.proofs.lemmas.Bool.{ne_eqb}
use Rattle.insn.specs.declared.insn.Insn.{Insn}
use Rattle.insn.specs.Program.{slots_of, instruction_at}
use Rattle.verify.specs.declared.error.VerifyError.{VerifyError}
use Rattle.verify.specs.declared.error.VerifyError.TheVariants.{At}
use Rattle.verify.specs.declared.reason.Reason.{Reason}
use Rattle.verify.specs.declared.state.AbsState.{AbsState}
use Rattle.reaching.specs.declared.mark.UnitMark.{UnitMark}
use Rattle.reaching.specs.declared.subject.Subject.{Subject}
use Rattle.reaching.specs.Marks.{KnownByUnit, known_by, marks}
use Rattle.explain.specs.declared.sentence.Sentence.{Sentence}
use Rattle.explain.specs.declared.edit_choices.Choice.{Choice}
use Rattle.explain.specs.Sources.{Holding, same_holding}
use Rattle.explain.specs.Cells.{sourced_text, ended_text, left_text, runs_text}
use Rattle.explain.specs.Notes.{subject_of, notes_on, number_notes}
use Rattle.explain.specs.Origins.{other_number}
use Rattle.explain.specs.Helps.{wanted, help_on}
use Rattle.explain.specs.Units.{Writing}
use Rattle.explain.specs.Explained.{sentence_of, about_text, told_text, refused_at, refused_text}

-- What follows if a call succeeds.
pub on_ok : {T E : Type 0} (r : Result T E) (P Q : Type 0) → (P → Q) → OnOk r P → OnOk r Q
on_ok (Ok x) P Q f h = f h
on_ok (Err e) P Q f h = tt

-- ---- cells before one with another content

pub some_left : (most : ℕ) → 0 < most → (most == 0) ≡ false
some_left most some = ne_eqb most 0 (λ e. absurd (omega arith))

abbrev pub apart_text : (ℕ → Holding) → ℕ → ℕ → Holding → ℕ → ℕ → Bool → List ℕ
apart_text holds most first held place n none =
    if none then sourced_text first place held ++ left_text (suc n)
    else ended_text first place held ++ runs_text holds (most - 1) place (holds place) (suc place) n

pub runs_apart : (out middle last : List ℕ) (holds : ℕ → Holding) (most first : ℕ) (held next : Holding) (place more less : ℕ) → more ≡ suc less → (most == 0) ≡ false → next ≡ holds place → same_holding held next ≡ false →
    middle ≡ out ++ ended_text first place held → last ≡ middle ++ runs_text holds (most - 1) place next (place + 1) less → last ≡ out ++ runs_text holds most first held place more
runs_apart out middle last holds most first held next place more less e some here apart before rest =
    let one : place + 1 ≡ suc place = omega arith in
    let ended : List ℕ = ended_text first place held in
    let other : same_holding held (holds place) ≡ false = ap (same_holding held) (sym here) ∙ apart in
    let parts : last ≡ out ++ apart_text holds most first held place less false =
    rest ∙ (ap (λ (l : List ℕ). l ++ runs_text holds (most - 1) place next (place + 1) less) before
    ∙ (append_assoc out ended (runs_text holds (most - 1) place next (place + 1) less) ∙ λ k. out ++ (ended ++ runs_text holds (most - 1) place (here k) (one k) less))) in
    let chosen : last ≡ out ++ apart_text holds most first held place less (most == 0) =
    parts ∙ ap (λ (t : Bool). out ++ apart_text holds most first held place less t) (sym some) in
    subst (λ (n : ℕ). last ≡ out ++ runs_text holds most first held place n) (sym e)
    (chosen ∙ ap (λ (t : Bool). out ++ (if t then runs_text holds most first held (suc place) less else apart_text holds most first held place less (most == 0))) (sym other))

pub runs_left : (out middle last : List ℕ) (holds : ℕ → Holding) (most first : ℕ) (held next : Holding) (place more less : ℕ) → more ≡ suc less → (most == 0) ≡ true → next ≡ holds place → same_holding held next ≡ false →
    middle ≡ out ++ sourced_text first place held → last ≡ middle ++ left_text more → last ≡ out ++ runs_text holds most first held place more
runs_left out middle last holds most first held next place more less e none here apart before rest =
    let other : same_holding held (holds place) ≡ false = ap (same_holding held) (sym here) ∙ apart in
    let parts : last ≡ out ++ apart_text holds most first held place less true =
    rest ∙ (ap (λ (l : List ℕ). l ++ left_text more) before
    ∙ (append_assoc out (sourced_text first place held) (left_text more) ∙ λ k. out ++ (sourced_text first place held ++ left_text (e k)))) in
    let chosen : last ≡ out ++ apart_text holds most first held place less (most == 0) =
    parts ∙ ap (λ (t : Bool). out ++ apart_text holds most first held place less t) (sym none) in
    subst (λ (n : ℕ). last ≡ out ++ runs_text holds most first held place n) (sym e)
    (chosen ∙ ap (λ (t : Bool). out ++ (if t then runs_text holds most first held (suc place) less else apart_text holds most first held place less (most == 0))) (sym other))

pub runs_alike : (out last : List ℕ) (holds : ℕ → Holding) (most first : ℕ) (held next : Holding) (place more less : ℕ) → more ≡ suc less → next ≡ holds place → same_holding held next ≡ true →
    last ≡ out ++ runs_text holds most first held (place + 1) less → last ≡ out ++ runs_text holds most first held place more
runs_alike out last holds most first held next place more less e here alike rest =
    let one : place + 1 ≡ suc place = omega arith in
    let same : same_holding held (holds place) ≡ true = ap (same_holding held) (sym here) ∙ alike in
    subst (λ (n : ℕ). last ≡ out ++ runs_text holds most first held place n) (sym e)
    (rest ∙ (ap (λ (n : ℕ). out ++ runs_text holds most first held n less) one
    ∙ ap (λ (t : Bool). out ++ (if t then runs_text holds most first held (suc place) less else apart_text holds most first held place less (most == 0))) (sym same)))

-- ---- notes and a help

pub about_so : (written : Writing) (out one two last : List ℕ) (survey : KnownByUnit) (program : List Insn) (unit : ℕ) (i : Insn) (s : Sentence) (asked : Subject) (items shown again : List UnitMark)
    (known : Option AbsState) (number : Option ℕ) (choice : Option (ℕ × Choice)) → Some asked ≡ subject_of s → items ≡ marks program survey asked unit → shown ≡ items → again ≡ items →
    one ≡ out ++ notes_on written program survey asked shown unit → known ≡ known_by (survey unit) → number ≡ other_number i known s → two ≡ one ++ number_notes written program survey unit number →
    choice ≡ wanted program again unit i s → last ≡ two ++ help_on program unit choice → last ≡ out ++ about_text written survey program unit i s (subject_of s)
about_so written out one two last survey program unit i s asked items shown again known number choice found all same other notes here moving more chosen help =
    let first : shown ≡ marks program survey asked unit = same ∙ all in
    let best : choice ≡ wanted program (marks program survey asked unit) unit i s = chosen ∙ ap (λ (m : List UnitMark). wanted program m unit i s) (other ∙ all) in
    let by : number ≡ other_number i (known_by (survey unit)) s = moving ∙ ap (λ (k : Option AbsState). other_number i k s) here in
    let own : List ℕ = notes_on written program survey asked shown unit in
    let its : List ℕ = number_notes written program survey unit number in
    let parts : last ≡ out ++ ((own ++ its) ++ help_on program unit choice) =
    help ∙ (ap (λ (l : List ℕ). l ++ help_on program unit choice) (more ∙ (ap (λ (l : List ℕ). l ++ its) notes ∙ append_assoc out own its))
    ∙ append_assoc out (own ++ its) (help_on program unit choice)) in
    subst (λ (o : Option Subject). last ≡ out ++ about_text written survey program unit i s o) found
    (parts ∙ λ k. out ++ ((notes_on written program survey asked (first k) unit ++ number_notes written program survey unit (by k)) ++ help_on program unit (best k)))

-- ---- a rejection

pub refused_so : (written : Writing) (out last : List ℕ) (survey : KnownByUnit) (program : List Insn) (fault : Option VerifyError) (r : Reason) (unit units : ℕ) (i : Insn) (known : Option AbsState) (s : Option Sentence) →
    fault ≡ Some (At r unit) → Some i ≡ instruction_at program unit → units ≡ length (slots_of program) → known ≡ known_by (survey unit) → s ≡ sentence_of units r unit i known →
    last ≡ out ++ told_text written survey program unit i s → last ≡ out ++ refused_text written survey program fault
refused_so written out last survey program fault r unit units i known s there at all here so told =
    let same : s ≡ sentence_of (length (slots_of program)) r unit i (known_by (survey unit)) = so ∙ λ k. sentence_of (all k) r unit i (here k) in
    subst (λ (o : Option VerifyError). last ≡ out ++ refused_text written survey program o) (sym there)
    (subst (λ (o : Option Insn). last ≡ out ++ refused_at written survey program r unit o) at (told ∙ λ k. out ++ told_text written survey program unit i (same k)))
