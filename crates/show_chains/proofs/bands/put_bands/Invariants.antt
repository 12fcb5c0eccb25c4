use Rattle.std.proofs.Common.{◌≡◌, ◌++◌}
use Rattle.std.specs.List.{flat_map, range_with_len}
use Rattle.std.specs.String.{string_bytes}
use Rattle.show_chains.specs.Bands.{band}
use Rattle.show_chains.proofs.bands.put_bands.Given as goal

-- The bands of the rounds so far are written.
abbrev pub invariant-loop-before : goal.invariant-loop-before
invariant-loop-before l = string_bytes l.out ≡ string_bytes l.fn.out ++ flat_map (band l.generals l.strokes l.plain l.accesses l.wide) (range_with_len 0 l.before)
