use Rattle.std.proofs.Common.{◌≡◌, ℕ, ap, arith}
use Rattle.absval.proofs.number_set.NumberSet.within.Goals as goal

pub returns-clause-holds : goal.returns-clause-holds
returns-clause-holds c = λ x p.
    let greatest : c.range.inside.hi ≡ c.args.range.1 = ap (λ (v : ℕ × ℕ). v.1) c.range.view_is in
    record { range = p; bits = c.unknown.ensures.holds x (omega arith) }
