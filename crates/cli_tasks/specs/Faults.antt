-- Defines the failure of a task whose file is rejected, with its text and its exit status.
use Rattle.std.specs.Prelude.{ℕ, ◌≡◌, ◌≢◌, ◌++◌, Bool, true, false, List, Option, None, Some, String, codes}
use Rattle.std.specs.declared.alloc.Global.{Global}
use Rattle.std.specs.Borrow.{Bor}
use Rattle.std.specs.Fmt.{◌++?◌}
use Rattle.std.specs.declared.io.ErrorKind.{ErrorKind}
use Rattle.std.specs.declared.io.ErrorKind.TheVariants.{OutOfMemory}
use Rattle.cli_tasks.specs.declared.refusal.InputRefusal.{InputRefusal}
use Rattle.cli_tasks.specs.declared.refusal.InputRefusal.TheVariants as refusal
use Rattle.cli_tasks.specs.declared.failure.TaskFailure.{TaskFailure}
use Rattle.cli_tasks.specs.declared.hint.Hint.{Hint}
use Rattle.cli_tasks.specs.declared.hint.Hint.TheVariants.{Explained}
use Rattle.cli_tasks.specs.declared.failure.TaskFailure.TheVariants.{Read, Text, Refused, Write, Memory}
use Rattle.streams.specs.Names.{shown}
use Rattle.cli_tasks.specs.Hints.{hint_behind, seems_behind}
use Rattle.cli_tasks.specs.ErrorText.{refusal_text}
use Rattle.cli_tasks.specs.Whys.{TellsWhyOf}
use Rattle.cli_tasks.specs.Whys as role

-- Returns the failure of a task that rejects the file with this name, without a hint.
abbrev pub fault_of : InputRefusal → Bor (List ℕ) → TaskFailure
fault_of refusal.Memory file = Memory
fault_of refusal.NotText file = Text file
fault_of other file = Refused other None

-- Returns the failure of a task that rejects the file with this name and these bytes. If the bytes are not bytecode,
-- the hint says what they seem to be. If an ELF object has no code for the entry function, the hint says why.
abbrev pub fault_of_bytes : InputRefusal → Bor (List ℕ) → List ℕ → TaskFailure
fault_of_bytes refusal.Memory file bytes = Memory
fault_of_bytes refusal.NotText file bytes = Text file
fault_of_bytes other file bytes = Refused other (seems_behind other bytes)

-- Returns the failure of a task that rejects the file with this name, with `text` as its hint.
abbrev pub text_fault : InputRefusal → Bor (List ℕ) → String Global → TaskFailure
text_fault refusal.Memory file text = Memory
text_fault refusal.NotText file text = Text file
text_fault other file text = Refused other (Some (Explained text))

-- States that this is the failure of a task that rejects the file with this name because of `cause`, and that the text
-- of its hint fulfils `tells`. The failure may also be that memory ran out.
abbrev pub IsTold : InputRefusal → Bor (List ℕ) → (List ℕ → Type 0) → TaskFailure → Type 0
IsTold cause file tells Memory = Unit {0}
IsTold cause file tells (Text own) = (cause ≡ refusal.NotText) × (own ≡ file)
IsTold cause file tells (Refused own hint) =
    (own ≡ cause) × (cause ≢ refusal.NotText) × (cause ≢ refusal.Memory) × tells (hint_behind hint)
IsTold cause file tells fault = ⊥

-- States that this is the failure of a task that rejects the file with this name because of `cause`. If the flag is
-- set, the text of its hint fulfils `tells`. Otherwise there is no hint.
abbrev pub IsToldIf : Bool → InputRefusal → Bor (List ℕ) → (List ℕ → Type 0) → TaskFailure → Type 0
IsToldIf false cause file tells fault = fault ≡ fault_of cause file
IsToldIf true cause file tells fault = IsTold cause file tells fault

-- States that this is the failure of a task that rejects its first file because of `cause`, without explaining a
-- program. If the flag is set, its hint is a report on the bytes `own`. Otherwise the hint says only what these seem to
-- be, or why an ELF object is at fault.
abbrev pub IsUnjudged : Bool → InputRefusal → Bor (List ℕ) → List ℕ → TaskFailure → Type 0
IsUnjudged false cause file own fault = fault ≡ fault_of_bytes cause file own
IsUnjudged true cause file own fault = IsTold cause file (TellsWhyOf cause role.Nothing file.now own) fault

-- Returns the failure of a task that could not read the file with this name because of an error of this kind.
abbrev pub unread_by : ErrorKind → Bor (List ℕ) → TaskFailure
unread_by OutOfMemory file = Memory
unread_by _ file = Read file

-- Returns the exit status of a task with this failure: 3 if memory ran out, and 1 for any other failure.
abbrev pub status_of : TaskFailure → ℕ
status_of Memory = 3
status_of _ = 1

-- Returns the text of a failure. For a rejected input this is the code of the fault and where it is, and on further
-- lines the hint. The text is `None`, which means not known, if it contains the name of a file that has both a control
-- character and characters beyond ASCII.
abbrev pub fault_text : TaskFailure → Option (List ℕ)
fault_text (Read file) = Some (codes "fault read ") ++? shown file.now
fault_text (Text file) = Some (codes "fault text ") ++? shown file.now
fault_text (Refused refusal hint) = Some (codes "refused " ++ refusal_text refusal ++ hint_behind hint)
fault_text Write = Some (codes "fault write")
fault_text Memory = Some (codes "out of memory")

-- States why the file with this name stops a task: it could not be read, it is rejected, or memory ran out. In the
-- first case `unread` holds. In the second case the refusal and its hint fulfil `refused`.
abbrev pub Stops : Type 0 → (InputRefusal → Option Hint → Type 0) → List ℕ → TaskFailure → Type 0
Stops unread refused name (Read file) = unread × (file.now ≡ name)
Stops unread refused name (Text file) = refused refusal.NotText None × (file.now ≡ name)
Stops unread refused name (Refused cause hint) = (cause ≢ refusal.NotText) × refused cause hint
Stops unread refused name Write = ⊥
Stops unread refused name Memory = Unit {0}
