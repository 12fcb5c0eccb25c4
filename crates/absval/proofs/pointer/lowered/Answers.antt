use Rattle.std.proofs.Common.{◌≡◌, ℤ, ap, rules, w32, w64, to_z, of_z, sym}
use Rattle.std.specs.Prelude.{◌-ℤ◌}
use Rattle.absval.proofs.Near.{both_near, second_far, lowered_holds}
use Rattle.absval.proofs.pointer.lowered.Goals as goal

pub returns-in_err-high-clause-exact : goal.returns-in_err-high-clause-exact
returns-in_err-high-clause-exact c =
    let offset : c.args.offsets.1 ≡ c.offsets.inside.high = ap (λ (v : ℤ × ℤ). v.1) (sym c.offsets.view_is) in
    let by : c.args.by.0 ≡ c.by.inside.low = ap (λ (v : ℤ × ℤ). v.0) (sym c.by.view_is) in
    rw c.from_residual-in_err-high.ensures (sym (second_far (c.args.offsets.0 -ℤ c.args.by.1)
    (to_z w32 (of_z w32 c.offsets.inside.high) -ℤ to_z w64 (of_z w64 c.by.inside.low)) (c.args.offsets.1 -ℤ c.args.by.0)
    c.in_err-high.ensures.exact (rw (offset, by) (search rules))))

pub returns-clause-exact : goal.returns-clause-exact
returns-clause-exact c =
    let low : c.args.offsets.0 ≡ c.offsets.inside.low = ap (λ (v : ℤ × ℤ). v.0) (sym c.offsets.view_is) in
    let high : c.args.offsets.1 ≡ c.offsets.inside.high = ap (λ (v : ℤ × ℤ). v.1) (sym c.offsets.view_is) in
    let least : c.args.by.0 ≡ c.by.inside.low = ap (λ (v : ℤ × ℤ). v.0) (sym c.by.view_is) in
    let greatest : c.args.by.1 ≡ c.by.inside.high = ap (λ (v : ℤ × ℤ). v.1) (sym c.by.view_is) in
    both_near (to_z w32 (of_z w32 c.offsets.inside.low) -ℤ to_z w64 (of_z w64 c.by.inside.high))
    (to_z w32 (of_z w32 c.offsets.inside.high) -ℤ to_z w64 (of_z w64 c.by.inside.low)) c.in_ok-low.low c.in_ok-high.high
    (c.args.offsets.0 -ℤ c.args.by.1) (c.args.offsets.1 -ℤ c.args.by.0) _ _
    c.in_ok-low.ensures.exact c.in_ok-high.ensures.exact (rw (low, greatest) (search rules)) (rw (high, least) (search rules)) (search rules) (search rules)

pub returns-clause-holds : goal.returns-clause-holds
returns-clause-holds c = lowered_holds c.args.offsets c.args.by _ (returns-clause-exact c)
