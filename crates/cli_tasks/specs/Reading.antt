-- Defines why bytecode that is longer than any program is rejected.
use Rattle.std.specs.Prelude.{ℕ, List, Option, IfSome}
use Rattle.cli_words.specs.declared.tasks.Task.{Task}
use Rattle.cli_tasks.specs.declared.refusal.InputRefusal.{InputRefusal}
use Rattle.cli_tasks.specs.declared.refusal.InputRefusal.TheVariants.{Codec}
use Rattle.cli_tasks.specs.ProgramRefusals.{RefusesBytes}
use Rattle.cli_tasks.specs.TaskHints.{IsHintOf}
use Rattle.cli_tasks.specs.declared.hint.Hint.{Hint}
use Rattle.streams.specs.Reading.{AreBytes}

-- States that bytecode which is too long is rejected with this first fault, and that the task prints this hint about
-- it. `known` are the bytes of the file, if they are known.
abbrev pub IsTooLong : Task → Option (List ℕ) → InputRefusal → Option Hint → Type 0
IsTooLong task known (Codec error) hint =
    ((bytes : List ℕ) × AreBytes known bytes × RefusesBytes bytes error)
    × IfSome known (λ all. IsHintOf (Codec error) task all all hint)
IsTooLong task known _ hint = ⊥
