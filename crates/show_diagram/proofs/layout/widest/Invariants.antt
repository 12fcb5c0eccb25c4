use Rattle.std.proofs.Common.{◌≡◌, ◌<◌, ◌^◌, drop, max}
use Rattle.show_diagram.specs.Layout.{widest}
use Rattle.show_diagram.proofs.layout.widest.Given as goal

-- The greatest width is that of the accesses so far and the remaining ones, and no width is too large.
abbrev pub invariant-loop-access : goal.invariant-loop-access
invariant-loop-access l = record { value : max (widest (drop l.access-index l.accesses)) l.widest ≡ widest l.accesses; small : l.widest < 2 ^ 100 }
