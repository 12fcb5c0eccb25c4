-- Defines what `check`, `asm` and `dis` print about a program.
use Rattle.std.specs.Prelude.{ℕ, ◌≡◌, ◌++◌, Bool, true, false, List, [], Option, None, Some, String, codes, length, map, string_bytes}
use Rattle.std.specs.declared.alloc.Global.{Global}
use Rattle.insn.specs.declared.insn.Insn.{Insn}
use Rattle.insn.specs.Program.{slots_of}
use Rattle.label.specs.declared.shape.Shape.{Shape}
use Rattle.semantics.specs.Relay.{oral}
use Rattle.semantics.specs.Run.{IsSound}
use Rattle.codec.specs.Spelling.{program_bytes}
use Rattle.asm.specs.Program.{program_of}
use Rattle.asm.specs.Printing.{text_of, unit_lines}
use Rattle.cli_words.specs.declared.tasks.Notation.{Notation}
use Rattle.verify.specs.Judgement.{judged}
use Rattle.trial.specs.Setting.{Setting, bench, context_in}
use Rattle.trial.specs.Answers.{IsTried, Tells as TellsSetting}
use Rattle.trial.specs.Trial.{Ending, trial_in}
use Rattle.trial.specs.Notes.{trial_notes}
use Rattle.trial.specs.Slips.{slips_on}
use Rattle.trial.specs.Trace.{trace_on}
use Rattle.cli_tasks.specs.Programs.{ArePlaces, HasProgram, IsBehind, if_asked}
use Rattle.cli_tasks.specs.Lines.{checked_lines, hex_line}
use Rattle.cli_tasks.specs.declared.program_check.Checked.{Checked}

-- States that the verifier accepts the program and the program is sound. Its run in the bench setting (general 3 of 4
-- in the first round, with a board of zeros) ended with the numbers in `checked`.
pub record IsRun (program : List Insn) (checked : Checked) : Type 0 where
  pub accepted : judged program ≡ None
  pub sound : IsSound program
  pub instructions : checked.instructions ≡ length program
  pub units : checked.units ≡ length (slots_of program)
  pub ending : Ending
  pub ended : trial_in bench program ≡ Some ending
  pub r0 : checked.r0 ≡ ending.r0
  pub steps : checked.steps ≡ ending.state.steps

-- Returns the steps of the program's run in the setting `s`, after an empty line. Returns no text if the steps are not
-- asked for.
abbrev pub steps_behind : Bool → List Insn → Setting → List ℕ
steps_behind false program s = []
steps_behind true program s = codes "\n" ++ trace_on s.board program (context_in s) (oral s.shape)

-- States that the file contains a program, and that `text` begins with the lines of the program's run in the bench
-- setting (general 3 of 4 in the first round). The steps follow if `traced` is set, and then the explanation if
-- `explained` is set.
abbrev pub IsChecked : Notation → Bool → Bool → List ℕ → List ℕ → Type 0
IsChecked notation explained traced bytes text =
    (program : List Insn) × HasProgram notation bytes program
    × ((checked : Checked) × IsRun program checked
    × IsBehind (if_asked explained notation) bytes program
    (checked_lines checked ++ steps_behind traced program bench) text)

-- States that `text` is `told`, the text about a program that was tried in this setting, with notes after it. If an
-- explanation is asked for, there is a note for each call that should send orders, but has no effect. It names the unit
-- of the call, and the line of the file where the call is written.
abbrev pub AreSlipsBehind : Option Notation → List ℕ → List Insn → Setting → List ℕ → List ℕ → Type 0
AreSlipsBehind None bytes program s told text = text ≡ told
AreSlipsBehind (Some notation) bytes program s told text =
    (places : List (String Global)) × ArePlaces notation bytes (map string_bytes places)
    × (text ≡ told ++ trial_notes places s.shape (slips_on s.board program (context_in s) (oral s.shape)))

-- States that `text` has the lines of the program's trial in this setting. The steps follow if `traced` is set. If an
-- explanation is asked for, it follows, with a note for each call that should send orders, but has no effect.
abbrev pub IsTriedIn : Setting → Bool → Option Notation → List ℕ → List Insn → List ℕ → Type 0
IsTriedIn s traced asked bytes program text =
    (lines : List ℕ) × IsTried program s lines
    × ((told : List ℕ) × IsBehind asked bytes program (lines ++ steps_behind traced program s) told
    × AreSlipsBehind asked bytes program s told text)

-- States that `text` describes the program's trial in the setting that the second file describes, and that `shape` says
-- for which general and round the program ran.
abbrev pub IsTriedAt : Shape → Bool → Option Notation → List ℕ → List ℕ → List Insn → List ℕ → Type 0
IsTriedAt shape traced asked first second program text =
    (s : Setting) × TellsSetting second s × (shape ≡ s.shape) × IsTriedIn s traced asked first program text

-- States that the text assembles to a program with this bytecode.
abbrev pub AssemblesRaw : List ℕ → List ℕ → Type 0
AssemblesRaw text bytes =
    (program : List Insn) × (program_of text ≡ Some program) × (bytes ≡ program_bytes program)

-- States that the text assembles to a program, and that `line` is its bytecode in hexadecimal digits, with a line feed.
abbrev pub Assembles : List ℕ → List ℕ → Type 0
Assembles text line =
    (program : List Insn) × (program_of text ≡ Some program) × (line ≡ hex_line program)

-- Returns the assembly text of a program. If the flag is set, each line begins with the number of the unit (8 bytes) at
-- which its instruction begins.
abbrev pub listing : Bool → List Insn → List ℕ
listing false program = text_of program
listing true program = unit_lines 0 program

-- States that the file contains a program, and that `text` is its assembly text.
abbrev pub Disassembles : Notation → Bool → List ℕ → List ℕ → Type 0
Disassembles notation units bytes text =
    (program : List Insn) × HasProgram notation bytes program × (text ≡ listing units program)
