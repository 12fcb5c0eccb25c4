-- The places of the statements so far.
use Rattle.std.proofs.Common.{◌≡◌, map, take, string_bytes}
use Rattle.std.specs.List.{flat_map}
use Rattle.asm.specs.Places.{kept_places}
use Rattle.asm.proofs.unit_places.all_places.Given as goal

abbrev pub invariant-loop-kept : goal.invariant-loop-kept
invariant-loop-kept l = map string_bytes l.places.items ≡ flat_map kept_places (take l.kept-index l.reading.sources.items)
