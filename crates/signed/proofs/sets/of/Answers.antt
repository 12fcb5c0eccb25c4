use Rattle.std.proofs.Common.{◌≡◌, ◌<◌, ℕ, List, cond, get_or, take, ap, ◌∙◌, arith}
use Rattle.std.proofs.lemmas.List.{take_all}
use Rattle.label.specs.Labels.{on}
use Rattle.label.proofs.Bounds.{below-at}
use Rattle.signed.proofs.Masks.{sum_is}
use Rattle.signed.proofs.sets.of.Goals as goal

pub with-bits-requires : goal.with-bits-requires
with-bits-requires c =
    let small : get_or c.args.generals.now c.loop-general.general-index 0 < 13 = below-at 13 c.args.generals.now c.loop-general.general-index c.requires.below (omega arith) in
    omega arith

pub returns-clause-same : goal.returns-clause-same
returns-clause-same c =
    let generals : List ℕ = c.args.generals.now in
    let whole : take c.loop-general.general-index generals ≡ generals = take_all c.loop-general.general-index generals (omega arith) in
    sum_is generals c.loop-general.bits c.requires.distinct (λ g. c.loop-general.invariant g ∙ ap (λ (xs : List ℕ). cond {A = ℕ} (on xs g) 1 0) whole)
