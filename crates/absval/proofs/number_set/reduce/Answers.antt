use Rattle.std.proofs.Common.{◌≡◌, ℕ, ap, arith}
use Rattle.absval.proofs.number_set.reduce.Goals as goal

pub returns-then-hi-lo-clause-holds : goal.returns-then-hi-lo-clause-holds
returns-then-hi-lo-clause-holds c = λ x p h.
    let greatest : c.range.inside.hi ≡ c.args.range.1 = ap (λ (v : ℕ × ℕ). v.1) c.range.view_is in
    let least : c.range.inside.lo ≡ c.args.range.0 = ap (λ (v : ℕ × ℕ). v.0) c.range.view_is in
    let above = c.least.ensures.least x h in
    let below = c.greatest.ensures.greatest x h in
    absurd (omega (arith, above, below, p.0, p.1))

pub returns-clause-holds : goal.returns-clause-holds
returns-clause-holds c = λ x p h.
    let greatest : c.range.inside.hi ≡ c.args.range.1 = ap (λ (v : ℕ × ℕ). v.1) c.range.view_is in
    let least : c.range.inside.lo ≡ c.args.range.0 = ap (λ (v : ℕ × ℕ). v.0) c.range.view_is in
    let above = c.least.ensures.least x h in
    let below = c.greatest.ensures.greatest x h in
    record { range = (omega (arith, above, below, p.0, p.1), omega (arith, above, below, p.0, p.1)); bits = h }
