use Rattle.std.proofs.Common.{[], ◌∷◌, ◌++◌, ◌∙◌, ap, arith}
use Rattle.show_diagram.specs.declared.stroke.Stroke.{Stroke}
use Rattle.show_chains.specs.Strokes.{Drawn}
use Rattle.show_chains.proofs.StrokeLemmas.{mapped}
use Rattle.show_chains.proofs.strokes.bare.Goals as goal

pub loop-stroke-preserved : goal.loop-stroke-preserved
loop-stroke-preserved c =
    c.in_ok-push.ensures.items
    ∙ (ap (λ (s : Stroke). c.loop-stroke.plain.items ++ s ∷ []) c.stroke.ensures
    ∙ mapped (λ (x : Drawn). x.stroke) c.args.strokes.now c.loop-stroke.plain.items c.loop-stroke.stroke-index c.stroke-item.result (omega arith) c.stroke-item.is c.loop-stroke.invariant)
