use Rattle.std.proofs.Common.{◌≡◌, ◌<◌, ◌≤◌, ◌+◌, length, arith}
use Rattle.label.specs.Space.{labels_of}
use Rattle.tree.proofs.Levels.{levels-there, row-long}
use Rattle.tree.proofs.Standing.{row-filled, row-whole}
use Rattle.tree.proofs.tree.Tree.set.Goals as goal

pub index_mut-requires : goal.index_mut-requires
index_mut-requires c =
    let there : length c.self.inside.levels.items ≡ c.self.inside.bound + 1 = levels-there c.self.invariant in
    let short : c.args.size ≤ c.self.inside.bound + 1 = rw (← c.self.view_is) at c.requires.short in
    let some : 0 < c.args.size = c.requires.some in
    omega arith

pub put-requires : goal.put-requires
put-requires c =
    let within : c.args.rank < length (labels_of c.self.inside.space c.args.size) = rw (← c.self.view_is) at c.requires.within in
    rw (row-long c.self.inside.space c.self.inside.bound c.self.inside.levels.items c.args.size c.index_mut.result.now c.self.invariant c.requires.some (rw (← c.self.view_is) at c.requires.short) c.index_mut.ensures.value) within

pub invariant_of-self : goal.invariant_of-self
invariant_of-self c =
    row-whole c.self.inside.space c.self.inside.bound c.self.inside.levels.items c.args.size c.args.rank c.index_mut.result.now c.put.new.self c.args.value c.self.invariant c.requires.some (rw (← c.self.view_is) at c.requires.short) c.index_mut.ensures.value c.put.ensures (rw (← c.self.view_is) at c.requires.within)

pub returns-clause-filled : goal.returns-clause-filled
returns-clause-filled c =
    rw (← c.self.view_is) (λ M w f at. row-filled c.self.inside.space c.self.inside.bound c.self.inside.levels.items M w c.args.size c.args.rank c.index_mut.result.now c.put.new.self c.args.value c.self.invariant f c.requires.some (rw (← c.self.view_is) at c.requires.short) c.index_mut.ensures.value c.put.ensures at)
