use Rattle.std.proofs.Common.{◌≡◌, ◌++◌}
use Rattle.std.specs.List.{flat_map, range_with_len}
use Rattle.std.specs.String.{string_bytes}
use Rattle.show_diagram.specs.Bands.{general_life}
use Rattle.show_diagram.proofs.bands.put_general_lives.Given as goal

abbrev pub invariant-loop-general : goal.invariant-loop-general
invariant-loop-general l = string_bytes l.out ≡ string_bytes l.fn.out ++ flat_map (general_life l.height) (range_with_len 0 l.general)
