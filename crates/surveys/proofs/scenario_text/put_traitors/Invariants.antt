use Rattle.std.proofs.Common.{◌≡◌, ◌++◌, take}
use Rattle.std.specs.Prelude.{flat_map, option_map}
use Rattle.std.specs.String.{string_bytes}
use Rattle.surveys.specs.Wording.{traitor_text}
use Rattle.surveys.proofs.scenario_text.put_traitors.Given as goal

abbrev pub invariant-loop-traitor : goal.invariant-loop-traitor
invariant-loop-traitor l = string_bytes l.out ≡ string_bytes l.fn.out ++ flat_map (traitor_text (option_map (λ hex. hex.now) l.given)) (take l.traitor-index l.traitors)
