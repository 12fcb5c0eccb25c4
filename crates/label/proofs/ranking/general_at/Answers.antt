use Rattle.std.proofs.Common.{◌≡◌, ◌∷◌, false, sym, ◌∙◌}
use Rattle.label.specs.Labels.{on}
use Rattle.label.proofs.Bounds.{others_here}
use Rattle.label.proofs.ranking.general_at.Goals as goal

pub returns-then-before-place : goal.returns-then-before-place
returns-then-before-place c =
    let out : on (c.args.receiver ∷ c.args.prefix.now) c.loop-x.x ≡ false = sym c.is_out.ensures ∙ c.if-not-is_out.true in
    others_here c.args.generals (c.args.receiver ∷ c.args.prefix.now) c.args.place c.loop-x.x c.loop-x-test.true out (sym c.if-before-place.true ∙ c.loop-x.invariant.value)
