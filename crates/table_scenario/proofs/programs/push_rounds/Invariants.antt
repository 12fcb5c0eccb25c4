use Rattle.std.proofs.Common.{◌≡◌, ◌++◌, ◌-◌}
use Rattle.std.specs.List.{flat_map, range_with_len}
use Rattle.std.specs.String.{string_bytes}
use Rattle.table_scenario.specs.Programs.{round_text}
use Rattle.table_scenario.proofs.programs.push_rounds.Given as goal

abbrev pub invariant-loop-round : goal.invariant-loop-round
invariant-loop-round g l =
    string_bytes l.text ≡ string_bytes l.fn.text ++ flat_map (round_text (g.H.Heard.seen l.table) l.general) (range_with_len 2 (l.round - 2))
