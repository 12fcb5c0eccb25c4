use Rattle.std.proofs.Common.{◌≡◌, ◌+◌, length, arith}
use Rattle.tree.proofs.Levels.{levels-there}
use Rattle.tree.proofs.Blanks.{away-blank, row-blank, whole-blank}
use Rattle.tree.proofs.tree.Tree.clear.Goals as goal
use Rattle.tree.proofs.tree.Tree.clear.Goals.{then-size-eq0-via-then-size-eq0, then-size-eq0-via-else-size-eq0+then-size-len}

pub returns-then-size-eq0-clause-filled : goal.returns-then-size-eq0-clause-filled
returns-then-size-eq0-clause-filled c =
    let there : length c.self.inside.levels.items ≡ c.self.inside.bound + 1 = levels-there c.self.invariant in
    rw (← c.self.view_is) (λ M f. away-blank c.self.inside.space c.self.inside.bound c.self.inside.levels.items M c.args.size c.self.invariant f
    (λ q low high e. elim c.then-size-eq0.branch [ then-size-eq0-via-then-size-eq0 w ↦ (let z = w.if-size-eq0.true in omega arith) | then-size-eq0-via-else-size-eq0+then-size-len w ↦ (let z = w.if-size-len.true in let l = w.len.ensures in omega arith) ]))

pub invariant_of-self : goal.invariant_of-self
invariant_of-self c =
    let there : length c.self.inside.levels.items ≡ c.self.inside.bound + 1 = levels-there c.self.invariant in
    whole-blank c.self.inside.space c.self.inside.bound c.self.inside.levels.items c.args.size c.index_mut.result.now c.clear.new.self c.self.invariant (let z = c.if-size-eq0.false in omega arith) (let z = c.if-size-len.false in omega arith) c.index_mut.ensures.value
    c.clear.ensures

pub returns-clause-filled : goal.returns-clause-filled
returns-clause-filled c =
    let there : length c.self.inside.levels.items ≡ c.self.inside.bound + 1 = levels-there c.self.invariant in
    rw (← c.self.view_is) (λ M f.
    row-blank c.self.inside.space c.self.inside.bound c.self.inside.levels.items M c.args.size c.index_mut.result.now c.clear.new.self c.self.invariant f (let z = c.if-size-eq0.false in omega arith) (let z = c.if-size-len.false in omega arith) c.index_mut.ensures.value
    c.clear.ensures)
