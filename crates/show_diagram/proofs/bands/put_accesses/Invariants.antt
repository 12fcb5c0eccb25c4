use Rattle.std.proofs.Common.{◌≡◌, ◌++◌, drop}
use Rattle.std.specs.String.{string_bytes}
use Rattle.show_diagram.specs.Bands.{accesses_from}
use Rattle.show_diagram.proofs.bands.put_accesses.Given as goal

abbrev pub invariant-loop-place : goal.invariant-loop-place
invariant-loop-place l = string_bytes l.out ++ accesses_from l.generals l.accesses l.round l.place (drop l.place l.accesses) ≡ string_bytes l.fn.out ++ accesses_from l.generals l.accesses l.round 0 l.accesses
