use Rattle.std.proofs.Common.{◌≡◌, ◌<◌, ◌^◌, drop, max}
use Rattle.show_diagram.specs.Layout.{most}
use Rattle.show_diagram.proofs.layout.most.Given as goal

abbrev pub invariant-loop-stroke : goal.invariant-loop-stroke
invariant-loop-stroke l = record { value : max (most l.round (drop l.stroke-index l.strokes)) l.most ≡ most l.round l.strokes; small : l.most < 2 ^ 65 }
