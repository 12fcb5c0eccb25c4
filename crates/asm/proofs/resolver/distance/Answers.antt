use Rattle.std.proofs.Common.{◌≡◌, ℕ, ◌-◌, ◌<◌, ◌≤◌, true, false, Some, refl, rules}
use Rattle.asm.specs.Distance.{distance_of, between}
use Rattle.asm.proofs.resolver.distance.Goals as goal

forward : (start target : ℕ) → start ≤ target → Some record { negative = false; magnitude = target - start } ≡ Some (between start target)
forward start target h = search rules

back : (start target : ℕ) → target < start → Some record { negative = true; magnitude = start - target } ≡ Some (between start target)
back start target h = search rules

pub returns-in_err-target-in-Named : goal.returns-in_err-target-in-Named
unfolding distance_of
returns-in_err-target-in-Named c ds finds = rw (c.in-Named.is, ← finds c.args.name.now, ← c.in_err-target-in-Named.ensures.value) c.from_residual.ensures

pub returns-in-Away : goal.returns-in-Away
unfolding distance_of
returns-in-Away c ds finds = rw c.in-Away.is refl

pub returns-then-start-target : goal.returns-then-start-target
unfolding distance_of
returns-then-start-target c ds finds = rw (c.in-Named.is, ← finds c.args.name.now, ← c.in_ok-target-in-Named.ensures.value) (forward _ _ c.if-start-target.true)

pub returns-else-start-target : goal.returns-else-start-target
unfolding distance_of
returns-else-start-target c ds finds = rw (c.in-Named.is, ← finds c.args.name.now, ← c.in_ok-target-in-Named.ensures.value) (back _ _ c.if-start-target.false)
