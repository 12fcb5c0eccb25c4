use Rattle.std.proofs.Common.{◌≡◌, ℕ, None, length, replicate, ap, ◌∙◌, arith}
use Rattle.std.specs.Vec.{vec_len}
use Rattle.tree.proofs.Keeping.{nothing-kept, nothing-in, told-long, orders-long}
use Rattle.tree.proofs.level.Level.clear.Goals as goal

pub invariant_of-self : goal.invariant_of-self
invariant_of-self c =
    let told = told-long c.self.inside.told.items c.self.inside.orders.items c.self.invariant in
    let orders = orders-long c.self.inside.told.items c.self.inside.orders.items c.self.invariant in
    let alike : vec_len c.self.inside.told ≡ vec_len c.self.inside.orders = let a = c.self.inside.told.ok in let b = c.self.inside.orders.ok in omega arith in
    nothing-kept c.fill-2.new.self.items c.fill.new.self.items (vec_len c.self.inside.told) (vec_len c.self.inside.orders) alike (c.fill-2.ensures.items (λ y e. e)) (c.fill.ensures.items (λ y e. e))

pub returns : goal.returns
returns c =
    let told = told-long c.self.inside.told.items c.self.inside.orders.items c.self.invariant in
    let orders = orders-long c.self.inside.told.items c.self.inside.orders.items c.self.invariant in
    let alike : vec_len c.self.inside.told ≡ vec_len c.self.inside.orders = let a = c.self.inside.told.ok in let b = c.self.inside.orders.ok in omega arith in
    let long : vec_len c.self.inside.told ≡ length c.args.self.now = rw (← c.self.view_is) (let a = c.self.inside.told.ok in omega arith) in
    nothing-in c.fill-2.new.self.items c.fill.new.self.items (vec_len c.self.inside.told) (vec_len c.self.inside.orders) alike (c.fill-2.ensures.items (λ y e. e)) (c.fill.ensures.items (λ y e. e))
    ∙ ap (λ (k : ℕ). replicate k None) long
