use Rattle.std.proofs.Common.{◌≡◌, ◌+◌, length, arith}
use Rattle.std.proofs.lemmas.Option.{slice_get_within}
use Rattle.label.specs.Space.{labels_of}
use Rattle.tree.proofs.Levels.{levels-there}
use Rattle.tree.proofs.Standing.{row-filled, row-whole, row-within, none-filled}
use Rattle.tree.proofs.tree.Tree.fill.Goals as goal

pub returns-then-size-len-clause-filled : goal.returns-then-size-len-clause-filled
returns-then-size-len-clause-filled c =
    let there : length c.self.inside.levels.items ≡ c.self.inside.bound + 1 = levels-there c.self.invariant in
    rw (← c.self.view_is) (λ M f. none-filled c.self.inside.space c.self.inside.bound c.self.inside.levels.items M c.args.label.now c.args.value c.self.invariant f (λ r short at. let e = c.len-size.ensures.value in let h = c.if-size-len.true in omega arith))

pub put-requires : goal.put-requires
put-requires c =
    let there : length c.self.inside.levels.items ≡ c.self.inside.bound + 1 = levels-there c.self.invariant in
    row-within c.self.inside.space c.self.inside.bound c.self.inside.levels.items c.args.label.now c.len-size.result c.in-Ok.place c.index_mut.result.now c.self.invariant c.len-size.ensures.value c.len-size.ensures.some (let h = c.if-size-len.false in omega arith) c.index_mut.ensures.value c.in-Ok.ensures.ok

pub invariant_of-self : goal.invariant_of-self
invariant_of-self c =
    let there : length c.self.inside.levels.items ≡ c.self.inside.bound + 1 = levels-there c.self.invariant in
    row-whole c.self.inside.space c.self.inside.bound c.self.inside.levels.items c.len-size.result c.in-Ok.place c.index_mut.result.now c.put.new.self c.args.value c.self.invariant c.len-size.ensures.some (let h = c.if-size-len.false in omega arith) c.index_mut.ensures.value c.put.ensures
    (rw c.len-size.ensures.value (slice_get_within (labels_of c.self.inside.space (length c.args.label.now)) c.in-Ok.place c.args.label.now c.in-Ok.ensures.ok))

pub returns-in-Ok-clause-filled : goal.returns-in-Ok-clause-filled
returns-in-Ok-clause-filled c =
    let there : length c.self.inside.levels.items ≡ c.self.inside.bound + 1 = levels-there c.self.invariant in
    rw (← c.self.view_is) (λ M f. row-filled c.self.inside.space c.self.inside.bound c.self.inside.levels.items M c.args.label.now c.len-size.result c.in-Ok.place c.index_mut.result.now c.put.new.self c.args.value c.self.invariant f c.len-size.ensures.some (let h = c.if-size-len.false in omega arith) c.index_mut.ensures.value c.put.ensures (rw c.len-size.ensures.value c.in-Ok.ensures.ok))

pub returns-in_default-clause-filled : goal.returns-in_default-clause-filled
returns-in_default-clause-filled c =
    rw (← c.self.view_is) (λ M f. none-filled c.self.inside.space c.self.inside.bound c.self.inside.levels.items M c.args.label.now c.args.value c.self.invariant f (λ r short at. c.in_default.ensures.err.1 r at))
