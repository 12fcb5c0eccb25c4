use Rattle.std.proofs.Common.{◌≡◌, ℕ, length, ap, ◌∙◌, arith, ◌∷◌, []}
use Rattle.label.specs.Labels.{others}
use Rattle.resolve.specs.Decided.{decided}
use Rattle.resolve.proofs.Decisions.{first-place, resolved, first-there}
use Rattle.resolve.proofs.recursion.resolve.Goals as goal
use Rattle.resolve.proofs.recursion.resolve.Goals.{then-space, else-space}

pub decide-requires-clause-within : goal.decide-requires-clause-within
decide-requires-clause-within g c = first-there c.args.tree.now c.space-space.ensures.kind

pub returns : goal.returns
returns g c =
    let commander = c.space-space.ensures.commander in
    let general = c.space-space.ensures.general in
    let lower_off : c.if-space.lower_off ≡ length (others c.args.tree.now.general (c.args.tree.now.commander ∷ [])) =
    elim c.if-space.branch [
      | then-space w ↦ first-place c.args.tree.now.commander c.args.tree.now.general c.if-space.lower_off (λ l. let e = w.lower_off-is in omega arith) (λ l. absurd (let h = w.if-space.true in omega arith))
      | else-space w ↦ first-place c.args.tree.now.commander c.args.tree.now.general c.if-space.lower_off (λ l. absurd (let h = w.if-space.false in omega arith)) (λ l. let e = w.lower_off-is in omega arith)
    ]
    in
    λ M full. c.decide.ensures ∙ (ap (λ (k : ℕ). decided (g.C.Combine.combined c.args.rule.now) c.args.tree.now k 1 0 c.if-space.lower_off) c.bound.ensures ∙ resolved (g.C.Combine.combined c.args.rule.now) c.args.tree.now M c.if-space.lower_off c.space-space.ensures.kind lower_off full)
