use Rattle.std.proofs.Common.{◌++◌, ◌∷◌, [], List, ℕ, arith, length-append}
use Rattle.label.specs.Generals.{IsGenerals}
use Rattle.label.proofs.Counting.{distinct-push}
use Rattle.label.proofs.Pushes.{below-push}
use Rattle.label.proofs.label.Label.with.Goals as goal

pub invariant_of-result : goal.invariant_of-result
invariant_of-result c =
    let old : List ℕ = c.args.self.now in
    let kind : IsGenerals old = c.generals-old.ensures.kind in
    let made : IsGenerals (old ++ c.args.general ∷ []) = record {
      filled = omega (arith, length-append old (c.args.general ∷ []));
      below = below-push 13 old c.args.general kind.below c.requires.below;
      distinct = distinct-push old c.args.general kind.distinct c.requires.fresh;
    } in
    rw (c.push.ensures.items, c.copied-generals.ensures, c.generals-old.ensures.value) made
