use Rattle.std.proofs.Common.{◌≡◌, ◌-◌, ◌++◌, [], drop, sym, ap, ◌∙◌, arith}
use Rattle.std.proofs.lemmas.List.{append-nil}
use Rattle.surveys.specs.Covering.{repeated}
use Rattle.surveys.proofs.Rising.{last_none}
use Rattle.surveys.proofs.coverage.repeated.Goals as goal

pub returns : goal.returns
returns c =
    let none : repeated (drop (c.loop-place.place - 1) c.args.seeds.now) ≡ [] = last_none c.args.seeds.now (c.loop-place.place - 1) (omega arith) in
    sym (append-nil c.loop-place.found.items) ∙ (ap (λ x. c.loop-place.found.items ++ x) (sym none) ∙ c.loop-place.invariant)
