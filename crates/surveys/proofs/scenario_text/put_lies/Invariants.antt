use Rattle.std.proofs.Common.{◌≡◌, ◌++◌, take}
use Rattle.std.specs.Prelude.{flat_map}
use Rattle.std.specs.String.{string_bytes}
use Rattle.surveys.specs.Wording.{lie_text}
use Rattle.surveys.proofs.scenario_text.put_lies.Given as goal

abbrev pub invariant-loop-lie : goal.invariant-loop-lie
invariant-loop-lie l = string_bytes l.out ≡ string_bytes l.fn.out ++ flat_map lie_text (take l.lie-index l.lies)
