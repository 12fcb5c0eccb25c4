-- Defines the hint that is printed when a task rejects its first file. It explains a program that the verifier rejects,
-- reports on the fault, says why an ELF object is at fault, or says what bytes seem to be that are not bytecode.
use Rattle.std.specs.Prelude.{ℕ, ◌≡◌, Bool, true, false, List, [], Option, None, Some, Result, Ok, Err, option_map, string_bytes, unwrap_or}
use Rattle.object.specs.Entry.{entry_of}
use Rattle.object.specs.declared.fault.ObjectFault.{ObjectFault}
use Rattle.cli_words.specs.Tasks.{file_of}
use Rattle.cli_words.specs.declared.tasks.Notation.{Notation}
use Rattle.cli_words.specs.declared.tasks.Notation.TheVariants.{Object}
use Rattle.cli_words.specs.declared.tasks.Task.{Task}
use Rattle.cli_words.specs.declared.tasks.Task.TheVariants.{Check, Disassemble, DisassemblePartly, Certify}
use Rattle.cli_tasks.specs.Whys.{TellsWhyOf}
use Rattle.cli_tasks.specs.Whys as role
use Rattle.cli_tasks.specs.declared.hint.Hint.{Hint}
use Rattle.cli_tasks.specs.declared.hint.Hint.TheVariants.{Explained}
use Rattle.cli_tasks.specs.declared.refusal.InputRefusal.{InputRefusal}
use Rattle.cli_tasks.specs.declared.refusal.InputRefusal.TheVariants.{Verifier}
use Rattle.cli_tasks.specs.Hints.{hint_behind, seems_behind, is_reported}
use Rattle.cli_tasks.specs.Programs.{IsWhy}

-- Returns how the program is written that the task must explain, or `None` if the task is not `check --explain`.
abbrev pub explained_in : Task → Option Notation
explained_in (Check file notation context true traced) = Some notation
explained_in _ = None

-- Returns the code that was found in an ELF object, or no bytes if none was found.
abbrev pub code_found : Result (List ℕ) ObjectFault → List ℕ
code_found (Ok code) = code
code_found (Err fault) = []

-- Returns the code of the function named `name` in an ELF object or, without a name, the code of its only global
-- function. Returns no bytes if the object has no such code.
abbrev pub entry_code : Option (List ℕ) → List ℕ → List ℕ
entry_code name object = code_found (entry_of object name)

-- Returns the bytes by which a fault in the task's first file is located. If the task reads an ELF object, they are the
-- code of its entry. Otherwise they are the whole file.
abbrev pub bytecode_in : Task → List ℕ → List ℕ
bytecode_in (Check file (Object entry) context explained traced) bytes =
    entry_code (option_map string_bytes entry) bytes
bytecode_in (Disassemble file (Object entry) units explained) bytes = entry_code (option_map string_bytes entry) bytes
bytecode_in (DisassemblePartly file (Object entry) explained) bytes = entry_code (option_map string_bytes entry) bytes
bytecode_in (Certify file (Object entry) generals) bytes = entry_code (option_map string_bytes entry) bytes
bytecode_in task bytes = bytes

-- Returns how a program is written that the verifier rejected, if the task must explain it. Returns `None` if the task
-- asks for no explanation, or if the program was rejected for another reason.
abbrev pub asked_of : InputRefusal → Task → Option Notation
asked_of (Verifier fault) task = explained_in task
asked_of _ task = None

-- States that the hint explains the program in the file. If no explanation is asked for, the hint is `otherwise`.
abbrev pub IsSaid : Option Notation → List ℕ → Option Hint → Option Hint → Type 0
IsSaid None bytes otherwise hint = hint ≡ otherwise
IsSaid (Some notation) bytes otherwise (Some (Explained text)) = IsWhy notation bytes (string_bytes text)
IsSaid (Some notation) bytes otherwise _ = ⊥

-- States that this is the hint when the task rejects its first file. If the task must explain its errors, the hint
-- explains the program that the verifier rejects, or is a report on `own`, the bytes in which the fault is located.
-- Otherwise the hint says why an ELF object is at fault, or what `own` seem to be.
abbrev pub IsHintBy : Bool → InputRefusal → Task → List ℕ → List ℕ → Option Hint → Type 0
IsHintBy false refusal task bytes own hint = hint ≡ seems_behind refusal own
IsHintBy true (Verifier fault) task bytes own hint = IsSaid (explained_in task) bytes None hint
IsHintBy true refusal task bytes own hint =
    TellsWhyOf refusal role.Nothing (unwrap_or (file_of task) []) own (hint_behind hint)

-- States that this is the hint when the task rejects its first file. The fault is located in the bytes `own`.
abbrev pub IsHintOf : InputRefusal → Task → List ℕ → List ℕ → Option Hint → Type 0
IsHintOf refusal task bytes own hint = IsHintBy (is_reported task refusal) refusal task bytes own hint

-- States that this is the hint when the task rejects its first file, which has these bytes.
abbrev pub IsHint : InputRefusal → Task → List ℕ → Option Hint → Type 0
IsHint refusal task bytes hint = IsHintOf refusal task bytes (bytecode_in task bytes) hint
