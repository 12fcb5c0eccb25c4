-- The notes on a rejection: where its subject, the register or stack cell at fault, got its value. They are about the
-- units that set the subject last on the paths to the fault, about tests and copies there from which the verifier
-- learns nothing of it, and about the numbers from which it was computed (own).
use Rattle.std.specs.Prelude.{ℕ, zero, suc, List, [], ◌++◌, Option, Some, None, codes, slice_get}
use Rattle.insn.specs.declared.insn.Insn.{Insn}
use Rattle.insn.specs.Program.{instruction_at}
use Rattle.verify.specs.declared.state.AbsState.{AbsState}
use Rattle.verify.specs.Registers.{known_at}
use Rattle.reaching.specs.declared.mark.UnitMark.{UnitMark}
use Rattle.reaching.specs.declared.mark.UnitMark.TheVariants.{Open, Sets}
use Rattle.reaching.specs.declared.subject.Subject.{Subject}
use Rattle.reaching.specs.declared.subject.Subject.TheVariants as subject
use Rattle.reaching.specs.Contents.{held_at}
use Rattle.reaching.specs.Left.{left}
use Rattle.reaching.specs.Marks.{KnownByUnit, known_by, marks}
use Rattle.explain.specs.declared.sentence.Sentence.{Sentence}
use Rattle.explain.specs.declared.sentence.Sentence.TheVariants as sentence
use Rattle.explain.specs.declared.sentence.RegisterMisuse.{RegisterMisuse}
use Rattle.explain.specs.declared.sentence.RegisterMisuse.TheVariants as misuse
use Rattle.explain.specs.declared.sentence.AccessMisuse.{AccessMisuse}
use Rattle.explain.specs.declared.sentence.AccessMisuse.TheVariants as access
use Rattle.explain.specs.declared.sentence.Misfit.{Misfit}
use Rattle.explain.specs.declared.sentence.Misfit.TheVariants as misfit
use Rattle.explain.specs.Sentences.{named_text}
use Rattle.explain.specs.Cells.{run_text}
use Rattle.explain.specs.Units.{Writing, insn_at}
use Rattle.explain.specs.declared.rules.Passing.{Passing}
use Rattle.explain.specs.Rules.{rule_text, passed_by, passing_text}
use Rattle.explain.specs.Origins.{origin_of, from_origin}

-- ---- the subject of a sentence

-- Returns the register that a misuse is about.
abbrev pub of_misuse : RegisterMisuse → Option Subject
of_misuse (misuse.Unset r) = Some (subject.Register r)
of_misuse misuse.Frame = None
of_misuse (misuse.Far r region span) = Some (subject.Register r)
of_misuse (misuse.EitherSign r value) = Some (subject.Register r)
of_misuse (misuse.Computed r value) = Some (subject.Register r)
of_misuse (misuse.Compared r value) = Some (subject.Register r)
of_misuse (misuse.Stored r value base at) = Some (subject.Register r)
of_misuse (misuse.NoBase r value) = Some (subject.Register r)
of_misuse (misuse.Exit value) = Some (subject.Register 0)

-- Returns the register or stack cell that a misuse of memory is about.
abbrev pub of_access : AccessMisuse → Option Subject
of_access (access.Outside r region span) = Some (subject.Register r)
of_access (access.Empty r span cell) = Some (subject.Cell cell)
of_access (access.Context r value) = Some (subject.Register r)

-- Returns the register that a rejected call is about.
abbrev pub of_misfit : Misfit → Option Subject
of_misfit (misfit.Helper number) = None
of_misfit (misfit.Above called r value most) = Some (subject.Register r)
of_misfit (misfit.NoPointer called r value) = Some (subject.Register r)
of_misfit (misfit.Board sum) = None

-- Returns the subject of a sentence: the register or stack cell that it is about.
abbrev pub subject_of : Sentence → Option Subject
subject_of (sentence.Structure s) = None
subject_of (sentence.Register m) = of_misuse m
subject_of (sentence.Memory a) = of_access a
subject_of (sentence.Call m) = of_misfit m

-- ---- notes

-- Writes the name of the subject, and what is known of it.
abbrev pub found_text : Subject → AbsState → List ℕ
found_text (subject.Register r) a = named_text r (known_at a.registers r)
found_text (subject.Cell place) a = run_text place (suc place) (held_at a.stack place)

-- Writes the beginning of a note: a line break, `note: ` and the instruction.
abbrev pub noted_text : Writing → ℕ → Insn → List ℕ
noted_text written unit i = codes "\nnote: " ++ insn_at written unit i

-- Writes the verifier's rule by which little is known of the subject after an instruction, if it is a register.
abbrev pub rule_behind : Subject → Insn → AbsState → List ℕ
rule_behind (subject.Register r) i a = rule_text i (known_at a.registers r)
rule_behind (subject.Cell place) i a = []

-- Writes a note on an instruction that set the subject: what was known of the subject after it.
abbrev pub set_note : Writing → Subject → ℕ → Insn → AbsState → List ℕ
set_note written asked unit i a =
    noted_text written unit i ++ codes " -> " ++ found_text asked (left i a) ++ rule_behind asked i (left i a)

-- Writes a note that an instruction says nothing about the register in question, if there is a reason.
abbrev pub noted_if : Writing → ℕ → Insn → Option Passing → List ℕ
noted_if written unit i None = []
noted_if written unit i (Some tells) = noted_text written unit i ++ passing_text tells

-- Writes a note on an instruction that tests or copies the subject, if the verifier learns nothing about the subject
-- there.
abbrev pub passing_note : Writing → Subject → ℕ → Insn → AbsState → List ℕ
passing_note written (subject.Register r) unit i a = noted_if written unit i (passed_by r i (known_at a.registers r))
passing_note written (subject.Cell place) unit i a = []

-- Writes a note on an instruction, if it is marked as setting the subject, or as leaving it unchanged on a path to the
-- fault.
abbrev pub note_by : Writing → Subject → ℕ → Insn → AbsState → Option UnitMark → List ℕ
note_by written asked unit i a (Some Sets) = set_note written asked unit i a
note_by written asked unit i a (Some Open) = passing_note written asked unit i a
note_by written asked unit i a _ = []

-- Writes a note on the instruction at a unit, as its mark says, if an instruction starts there and a path leads to it.
abbrev pub note_text : Writing → Subject → ℕ → Option Insn → Option AbsState → Option UnitMark → List ℕ
note_text written asked unit (Some i) (Some a) mark = note_by written asked unit i a mark
note_text written asked unit i known mark = []

-- Writes a note on what is known of the subject at the entry, if a path leads from there to the fault on which nothing
-- sets it.
abbrev pub entry_note : Subject → Option AbsState → Option UnitMark → List ℕ
entry_note asked (Some a) (Some Open) = codes "\nnote: at the entry " ++ found_text asked a
entry_note asked known mark = []

-- Writes the notes on the entry and on the units below `n`.
abbrev pub notes_below : Writing → List Insn → KnownByUnit → Subject → List UnitMark → ℕ → List ℕ
notes_below written program survey asked marked zero = entry_note asked (known_by (survey 0)) (slice_get marked 0)
notes_below written program survey asked marked (suc n) =
    notes_below written program survey asked marked n
    ++ note_text written asked n (instruction_at program n) (known_by (survey n)) (slice_get marked n)

-- Writes notes on the register from which the subject was computed, if that register's number may be above or below 0.
-- Notes on the register from which that one was computed come before, and so on, for at most the given number of steps.
unfoldable pub origin_notes : ℕ → Writing → List Insn → KnownByUnit → List UnitMark → ℕ → List ℕ
origin_notes zero written program survey marked unit = []
origin_notes (suc n) written program survey marked unit =
    from_origin (λ r place.
    origin_notes n written program survey (marks program survey (subject.Register r) place) place
    ++ notes_below written program survey (subject.Register r) (marks program survey (subject.Register r) place) place)
    (origin_of program survey marked unit)

-- Writes all notes on the subject of a fault at a unit. Those on the registers from which it was computed come first.
abbrev pub notes_on : Writing → List Insn → KnownByUnit → Subject → List UnitMark → ℕ → List ℕ
notes_on written program survey asked marked unit =
    origin_notes 8 written program survey marked unit ++ notes_below written program survey asked marked unit

-- Writes all notes on a number that is not the subject of the sentence, if there is one.
abbrev pub number_notes : Writing → List Insn → KnownByUnit → ℕ → Option ℕ → List ℕ
number_notes written program survey unit None = []
number_notes written program survey unit (Some r) =
    notes_on written program survey (subject.Register r) (marks program survey (subject.Register r) unit) unit
