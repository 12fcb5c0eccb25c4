use Rattle.std.proofs.Common.{◌≡◌, ◌+◌, ◌∙◌}
use Rattle.rayon.proofs.ListFacts.{IfOk-then}
use Rattle.resolve.specs.Upward.{decisions_at}
use Rattle.resolve.proofs.Rising.{longest-om}
use Rattle.resolve.proofs.level.longest.Goals as goal

pub returns-clause-told : goal.returns-clause-told
returns-clause-told c = λ M f full.
    IfOk-then c.to_vec.result _ (λ v. v.items ≡ decisions_at f c.args.tree.now M 0 (c.args.tree.now.bound + 1)) c.to_vec.ensures.items_if_clones_equal
    (λ v same. longest-om f c.args.tree.now M (c.args.tree.now.bound + 1) v.items (same (λ x y e. e) ∙ rw c.bound.ensures at (c.level.ensures.told M full)))
