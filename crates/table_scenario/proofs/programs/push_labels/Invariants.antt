use Rattle.std.proofs.Common.{◌≡◌, ◌++◌, ◌∷◌, []}
use Rattle.std.specs.Prelude.{get_or}
use Rattle.std.specs.List.{flat_map, range_with_len}
use Rattle.std.specs.String.{string_bytes}
use Rattle.label.specs.Labels.{labels}
use Rattle.table_scenario.specs.Programs.{label_text}
use Rattle.table_scenario.proofs.programs.push_labels.Given as goal

abbrev pub invariant-loop-rank : goal.invariant-loop-rank
invariant-loop-rank g l =
    string_bytes l.text ≡ string_bytes l.fn.text ++ flat_map (λ rank. label_text (g.H.Heard.seen l.table) rank (get_or (labels (g.H.Heard.seen l.table).generals (g.H.Heard.seen l.table).commander l.general l.size) rank [] ++ l.general ∷ [])) (range_with_len 0 l.rank)
