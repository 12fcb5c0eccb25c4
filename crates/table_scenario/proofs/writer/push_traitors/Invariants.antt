use Rattle.std.proofs.Common.{◌≡◌, ◌++◌}
use Rattle.std.specs.Prelude.{filter}
use Rattle.std.specs.List.{flat_map, range_with_len}
use Rattle.std.specs.String.{string_bytes}
use Rattle.label.specs.Labels.{on}
use Rattle.table_scenario.specs.Programs.{traitor_text}
use Rattle.table_scenario.proofs.writer.push_traitors.Given as goal

abbrev pub invariant-loop-general : goal.invariant-loop-general
invariant-loop-general g l =
    string_bytes l.text ≡ string_bytes l.fn.text ++ flat_map (traitor_text (g.H.Heard.seen l.table)) (filter (on l.traitors) (range_with_len 0 l.general))
