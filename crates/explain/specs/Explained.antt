-- The explanation of a program: what is known at each unit that the verifier reaches and, if the program is rejected,
-- why (own). A unit is 8 bytes of bytecode.
use Rattle.std.specs.Prelude.{ℕ, ℤ, pos, ◌+◌, ◌+ℤ◌, ◌==◌, nat_lt, Bool, false, if◌then◌else◌, List, [], ◌∷◌, ◌++◌, Option, Some, None, option_map, option_and_then, codes, length}
use Rattle.insn.specs.declared.insn.Insn.{Insn}
use Rattle.insn.specs.declared.insn.Insn.TheVariants.{Jump, LongJump, Branch}
use Rattle.insn.specs.Insn.{units_of}
use Rattle.insn.specs.Program.{slots_of, instruction_at}
use Rattle.absval.specs.declared.value.AbsVal.{AbsVal}
use Rattle.verify.specs.declared.error.VerifyError.{VerifyError}
use Rattle.verify.specs.declared.error.VerifyError.TheVariants.{At}
use Rattle.verify.specs.declared.reason.Reason.{Reason}
use Rattle.verify.specs.declared.reason.Reason.TheVariants as reason
use Rattle.verify.specs.declared.state.AbsState.{AbsState}
use Rattle.verify.specs.Registers.{known_at}
use Rattle.verify.specs.Judgement.{judged}
use Rattle.verify.specs.KnownAtUnits.{known_before}
use Rattle.explain.specs.declared.sentence.Sentence.{Sentence}
use Rattle.explain.specs.declared.sentence.Sentence.TheVariants as sentence
use Rattle.explain.specs.declared.sentence.Structure.TheVariants as structure
use Rattle.explain.specs.Sentences.{named_text, sentence_text}
use Rattle.explain.specs.Shortfalls.{shortfall}
use Rattle.helper.specs.Reads.{read_by}
use Rattle.explain.specs.Sources.{holding}
use Rattle.explain.specs.Cells.{cells_read}
use Rattle.explain.specs.Units.{Writing, in_lists, insn_at}
use Rattle.explain.specs.Origins.{other_number}
use Rattle.explain.specs.Notes.{subject_of, notes_on, number_notes}
use Rattle.explain.specs.Helps.{wanted, help_on}
use Rattle.reaching.specs.declared.subject.Subject.{Subject}
use Rattle.reaching.specs.Left.{left, result_of}
use Rattle.reaching.specs.Marks.{KnownByUnit, known_by, marks}

-- ---- what is known at a unit

-- Writes a register that an instruction reads, and what is known of it.
abbrev pub read_text : List AbsVal → Option ℕ → List ℕ
read_text registers None = []
read_text registers (Some r) = codes " ; " ++ named_text r (known_at registers r)

-- Writes the registers that an instruction reads, and what is known of each.
abbrev pub reads_text : List AbsVal → List (Option ℕ) → List ℕ
reads_text registers (first ∷ second ∷ third ∷ []) =
    read_text registers first ++ read_text registers second ++ read_text registers third
reads_text registers _ = []

-- Writes what is known of the registers and stack cells that an instruction reads. `survey` has what the verifier knows
-- at each unit.
abbrev pub known_text : List Insn → KnownByUnit → ℕ → Insn → Option AbsState → List ℕ
known_text program survey unit i None = codes " ; no path leads here"
known_text program survey unit i (Some a) =
    reads_text a.registers (read_by i) ++ cells_read (holding program survey unit a.stack) i a.registers

-- Writes a line break, and the unit with its instruction.
abbrev pub place_text : Writing → ℕ → Insn → List ℕ
place_text written unit i = codes "\n" ++ insn_at written unit i

-- Writes the line of a unit: its instruction, and what is known of the registers and stack cells that it reads.
abbrev pub unit_line : Writing → List Insn → KnownByUnit → ℕ → Insn → Option AbsState → List ℕ
unit_line written program survey unit i known = place_text written unit i ++ known_text program survey unit i known

-- Writes the register that an instruction sets, and what is known of it after the instruction.
abbrev pub result_text : Option ℕ → AbsState → List ℕ
result_text None a = []
result_text (Some r) a = codes " -> " ++ named_text r (known_at a.registers r)

-- Writes the register that an instruction sets and what is known of it, if a path leads to the instruction.
abbrev pub given_text : Insn → Option AbsState → List ℕ
given_text i None = []
given_text i (Some a) = result_text (result_of i) (left i a)

-- Returns whether the fault is at this unit.
abbrev pub is_at : Option VerifyError → ℕ → Bool
is_at (Some (At r place)) unit = place == unit
is_at _ unit = false

-- Writes the register that an instruction sets and what is known of it, unless the fault is at this unit.
abbrev pub behind_text : Option VerifyError → ℕ → Insn → Option AbsState → List ℕ
behind_text fault unit i known = if is_at fault unit then [] else given_text i known

-- Writes the line of a unit: its instruction, what is known of what it reads, and what is known of its result.
abbrev pub whole_line : Writing → List Insn → KnownByUnit → Option VerifyError → ℕ → Insn → Option AbsState → List ℕ
whole_line written program survey fault unit i known =
    unit_line written program survey unit i known ++ behind_text fault unit i known

-- Writes the line of a unit, if the verifier reaches the unit.
abbrev pub line_if : Writing → List Insn → KnownByUnit → Option VerifyError → ℕ → Insn → Option (Option AbsState) →
    List ℕ
line_if written program survey fault unit i None = []
line_if written program survey fault unit i (Some known) = whole_line written program survey fault unit i known

-- Writes a line for each instruction from a unit on that the verifier reaches.
abbrev pub known_lines : Writing → List Insn → KnownByUnit → Option VerifyError → ℕ → List Insn → List ℕ
known_lines written program survey fault unit [] = []
known_lines written program survey fault unit (i ∷ is) =
    line_if written program survey fault unit i (survey unit)
    ++ known_lines written program survey fault (unit + units_of i) is

-- ---- why the program is rejected

-- Returns the unit to which a jump leads. It may be outside the program.
abbrev pub target_of : ℕ → Insn → Option ℤ
target_of unit (Jump distance) = Some (pos (unit + 1) +ℤ distance)
target_of unit (LongJump distance) = Some (pos (unit + 1) +ℤ distance)
target_of unit (Branch w condition dst operand distance) = Some (pos (unit + 1) +ℤ distance)
target_of unit i = None

-- Returns the sentence that says why the instruction at a unit is rejected, in a program of `units` units.
abbrev pub sentence_of : ℕ → Reason → ℕ → Insn → Option AbsState → Option Sentence
sentence_of units reason.BackJump unit i known =
    option_map (λ to. sentence.Structure (structure.Back to)) (target_of unit i)
sentence_of units reason.JumpOut unit i known =
    option_map (λ to. sentence.Structure (structure.Out to units)) (target_of unit i)
sentence_of units reason.JumpInWide unit i known =
    option_map (λ to. sentence.Structure (structure.Inside to)) (target_of unit i)
sentence_of units reason.LastNotExit unit i known = Some (sentence.Structure structure.NoExit)
sentence_of units r unit i known = option_and_then (λ a. shortfall r i a) known

-- Writes the line `UNIT INSTRUCTION: SENTENCE`.
abbrev pub sentence_line : Writing → ℕ → Insn → Sentence → List ℕ
sentence_line written unit i s = place_text written unit i ++ codes ": " ++ sentence_text s

-- Writes where the subject of the sentence, a register or stack cell, got its value, and an edit that helps. If a
-- pointer is added to a number, this includes where the number got its value.
abbrev pub about_text : Writing → KnownByUnit → List Insn → ℕ → Insn → Sentence → Option Subject → List ℕ
about_text written survey program unit i s None = []
about_text written survey program unit i s (Some asked) =
    notes_on written program survey asked (marks program survey asked unit) unit
    ++ number_notes written program survey unit (other_number i (known_by (survey unit)) s)
    ++ help_on program unit (wanted program (marks program survey asked unit) unit i s)

-- Writes the line with the sentence, and then the notes and the help.
abbrev pub told_text : Writing → KnownByUnit → List Insn → ℕ → Insn → Option Sentence → List ℕ
told_text written survey program unit i None = []
told_text written survey program unit i (Some s) =
    sentence_line written unit i s ++ about_text written survey program unit i s (subject_of s)

-- Writes why the instruction at a unit is rejected.
abbrev pub refused_at : Writing → KnownByUnit → List Insn → Reason → ℕ → Option Insn → List ℕ
refused_at written survey program r unit None = []
refused_at written survey program r unit (Some i) =
    told_text written survey program unit i (sentence_of (length (slots_of program)) r unit i (known_by (survey unit)))

-- Writes why a program is rejected, if it is.
abbrev pub refused_text : Writing → KnownByUnit → List Insn → Option VerifyError → List ℕ
refused_text written survey program (Some (At r unit)) =
    refused_at written survey program r unit (instruction_at program unit)
refused_text written survey program _ = []

-- Writes a line for each unit that the verifier reaches, and then why the program is rejected, if it is.
abbrev pub lines_by : Writing → KnownByUnit → List Insn → Option VerifyError → List ℕ
lines_by written survey program fault =
    known_lines written program survey fault 0 program ++ refused_text written survey program fault

-- ---- the explanation of a whole program

-- Returns what the verifier knows before each unit of the program, and nothing for units after its end.
abbrev pub known_in : List Insn → KnownByUnit
known_in program unit = if nat_lt unit (length (slots_of program)) then known_before program unit else None

-- Returns the explanation. `written` has the text of each unit in the source.
abbrev pub explained_at : Writing → List Insn → List ℕ
explained_at written program = lines_by written (known_in program) program (judged program)

-- Returns the explanation, with the instructions printed from the bytecode and without their places in the source.
abbrev pub explained : List Insn → List ℕ
explained program = explained_at (in_lists [] []) program
