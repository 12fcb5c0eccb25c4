use Rattle.std.proofs.Common.{◌≡◌, ◌++◌, take}
use Rattle.std.specs.List.{flat_map}
use Rattle.std.specs.String.{string_bytes}
use Rattle.show_chains.specs.Bands.{drawn}
use Rattle.show_chains.proofs.bands.put_strokes.Given as goal

-- The strokes so far are drawn.
abbrev pub invariant-loop-stroke : goal.invariant-loop-stroke
invariant-loop-stroke l = string_bytes l.out ≡ string_bytes l.fn.out ++ flat_map (drawn l.generals l.accesses l.round) (take l.stroke-index l.strokes)
