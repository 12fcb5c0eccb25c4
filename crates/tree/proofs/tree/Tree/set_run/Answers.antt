use Rattle.std.proofs.Common.{◌≡◌, ◌<◌, ◌≤◌, ◌+◌, length, arith}
use Rattle.label.specs.Space.{labels_of}
use Rattle.tree.proofs.Levels.{levels-there, row-long}
use Rattle.tree.proofs.Runs.{row-run, whole-run}
use Rattle.tree.proofs.tree.Tree.set_run.Goals as goal

pub index_mut-requires : goal.index_mut-requires
index_mut-requires g c =
    let there : length c.self.inside.levels.items ≡ c.self.inside.bound + 1 = levels-there c.self.invariant in
    let short : c.args.size ≤ c.self.inside.bound + 1 = rw (← c.self.view_is) at c.requires.short in
    let some : 0 < c.args.size = c.requires.some in
    omega arith

pub put_run-requires-clause-within : goal.put_run-requires-clause-within
put_run-requires-clause-within g c =
    let within : c.args.first + c.args.count ≤ length (labels_of c.self.inside.space c.args.size) = rw (← c.self.view_is) at c.requires.within in
    let long : length c.index_mut.result.now ≡ length (labels_of c.self.inside.space c.args.size) = row-long c.self.inside.space c.self.inside.bound c.self.inside.levels.items c.args.size c.index_mut.result.now c.self.invariant c.requires.some (rw (← c.self.view_is) at c.requires.short) c.index_mut.ensures.value in
    rw long within

pub invariant_of-self : goal.invariant_of-self
invariant_of-self g c =
    let wrote = c.put_run.ensures in
    let within : c.args.first + c.args.count ≤ length (labels_of c.self.inside.space c.args.size) = rw (← c.self.view_is) at c.requires.within in
    let many : length wrote.0 ≡ c.args.count = wrote.1.long in
    whole-run c.self.inside.space c.self.inside.bound c.self.inside.levels.items c.args.size c.args.first wrote.0 c.index_mut.result.now c.put_run.new.self c.self.invariant c.requires.some (rw (← c.self.view_is) at c.requires.short) c.index_mut.ensures.value
    wrote.2 (omega arith)

pub returns-clause-filled : goal.returns-clause-filled
returns-clause-filled g c =
    let wrote = c.put_run.ensures in
    let within : c.args.first + c.args.count ≤ length (labels_of c.self.inside.space c.args.size) = rw (← c.self.view_is) at c.requires.within in
    let many : length wrote.0 ≡ c.args.count = wrote.1.long in
    let fits : c.args.first + length wrote.0 ≤ length (labels_of c.self.inside.space c.args.size) = omega arith in (
      wrote.0,
      wrote.1,
      rw (← c.self.view_is) (λ M f.
          row-run c.self.inside.space c.self.inside.bound c.self.inside.levels.items M c.args.size c.args.first wrote.0 c.index_mut.result.now c.put_run.new.self c.self.invariant f c.requires.some (rw (← c.self.view_is) at c.requires.short) c.index_mut.ensures.value
          wrote.2 fits),
    )
