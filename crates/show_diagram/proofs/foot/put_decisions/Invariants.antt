use Rattle.std.proofs.Common.{◌≡◌, ◌++◌}
use Rattle.std.specs.List.{flat_map, range_with_len}
use Rattle.std.specs.String.{string_bytes}
use Rattle.show_diagram.specs.Foot.{decided}
use Rattle.show_diagram.proofs.foot.put_decisions.Given as goal

abbrev pub invariant-loop-general : goal.invariant-loop-general
invariant-loop-general l = string_bytes l.out ≡ string_bytes l.fn.out ++ flat_map (decided l.scenario l.decisions) (range_with_len 0 l.general)
