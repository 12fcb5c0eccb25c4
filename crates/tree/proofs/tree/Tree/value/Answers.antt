use Rattle.std.proofs.Common.{◌≡◌, ◌≤◌, ◌+◌, length, arith}
use Rattle.tree.proofs.Levels.{levels-there}
use Rattle.tree.proofs.Standing.{placed, ranked, row-within, row-read}
use Rattle.tree.proofs.tree.Tree.value.Goals as goal

pub returns-then-size-len-clause-told : goal.returns-then-size-len-clause-told
returns-then-size-len-clause-told c =
    rw (← c.self.view_is) (λ M f p.
    let there : length c.self.inside.levels.items ≡ c.self.inside.bound + 1 = levels-there c.self.invariant in
    let short : length c.args.label.now ≤ c.self.inside.bound + 1 = p.short in
    let size = c.len-size.ensures.value in
    absurd (let h = c.if-size-len.true in omega arith))

pub value-requires : goal.value-requires
value-requires c =
    let there : length c.self.inside.levels.items ≡ c.self.inside.bound + 1 = levels-there c.self.invariant in
    row-within c.self.inside.space c.self.inside.bound c.self.inside.levels.items c.args.label.now c.len-size.result c.in-Ok.place c.index.result.now c.self.invariant c.len-size.ensures.value c.len-size.ensures.some (let h = c.if-size-len.false in omega arith) c.index.ensures c.in-Ok.ensures.ok

pub returns-in-Ok-clause-told : goal.returns-in-Ok-clause-told
returns-in-Ok-clause-told c =
    let there : length c.self.inside.levels.items ≡ c.self.inside.bound + 1 = levels-there c.self.invariant in
    rw (← c.self.view_is) (λ M f p. row-read c.self.inside.space c.self.inside.bound c.self.inside.levels.items M c.args.label.now c.len-size.result c.in-Ok.place c.index.result.now c.value.result c.self.invariant f c.len-size.ensures.value c.len-size.ensures.some (let h = c.if-size-len.false in omega arith) c.index.ensures c.in-Ok.ensures.ok c.value.ensures)

pub returns-in-Ok-clause-strange : goal.returns-in-Ok-clause-strange
returns-in-Ok-clause-strange c =
    let there : length c.self.inside.levels.items ≡ c.self.inside.bound + 1 = levels-there c.self.invariant in
    rw (← c.self.view_is) (λ strange. absurd (strange (placed c.self.inside.space c.self.inside.bound c.self.inside.levels.items c.args.label.now c.in-Ok.place c.self.invariant.space (let h = c.if-size-len.false in let e = c.len-size.ensures.value in omega arith) c.in-Ok.ensures.ok)))

pub returns-in-Err-clause-told : goal.returns-in-Err-clause-told
returns-in-Err-clause-told c = rw (← c.self.view_is) (λ M f p. absurd (ranked c.self.inside.space c.self.inside.bound c.self.inside.levels.items c.args.label.now c.self.invariant.space p c.in-Err.ensures.err.1))
