-- Defines hints, which are printed after the error line of a rejected input. A hint says what bytes that are not
-- bytecode seem to be, why an ELF object is at fault, or explains the fault.
use Rattle.std.specs.Prelude.{ℕ, Bool, false, List, [], ◌++◌, Option, None, Some, codes, option_map, string_bytes}
use Rattle.object.specs.Sentences.{sentence_of}
use Rattle.cli_words.specs.declared.tasks.Task.{Task}
use Rattle.cli_tasks.specs.Seeming.{likeness_of, seems_text}
use Rattle.cli_tasks.specs.Whys.{is_explained}
use Rattle.cli_tasks.specs.declared.hint.Hint.{Hint}
use Rattle.cli_tasks.specs.declared.hint.Hint.TheVariants.{Seems, Fault, Explained}
use Rattle.cli_tasks.specs.declared.refusal.InputRefusal.{InputRefusal}
use Rattle.cli_tasks.specs.declared.refusal.InputRefusal.TheVariants.{Object as NoEntry}

-- Returns the text of a hint.
abbrev pub hint_text : Hint → List ℕ
hint_text (Seems likeness) = codes "\n" ++ seems_text likeness
hint_text (Fault fault) = codes "\n" ++ sentence_of fault
hint_text (Explained text) = string_bytes text

-- Returns the text of a hint, or an empty text if there is no hint.
abbrev pub hint_behind : Option Hint → List ℕ
hint_behind None = []
hint_behind (Some hint) = hint_text hint

-- Returns the hint that is printed even if no explanation is asked for: why an ELF object is at fault, or what bytes
-- that are not bytecode seem to be.
abbrev pub seems_behind : InputRefusal → List ℕ → Option Hint
seems_behind (NoEntry fault) bytes = Some (Fault fault)
seems_behind refusal bytes = option_map Seems (likeness_of refusal bytes)

-- Checks whether the task prints a report on this refusal. It does if it must explain its errors, except for a fault of
-- an ELF object, which is always explained by its hint.
abbrev pub is_reported : Task → InputRefusal → Bool
is_reported task (NoEntry fault) = false
is_reported task _ = is_explained task
