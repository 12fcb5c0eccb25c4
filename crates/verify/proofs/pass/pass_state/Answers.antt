use Rattle.std.proofs.Common.{rules, ◌≡◌, w16, w32, to_z, of_z, length}
use Rattle.verify.proofs.Jumps.{jump_inside, long_inside, branch_inside}
use Rattle.verify.proofs.pass.pass_state.Goals as goal

pub pass_jump-requires-clause-edges : goal.pass_jump-requires-clause-edges
pass_jump-requires-clause-edges c =
    let same : to_z w32 (of_z w32 c.from.result) ≡ c.in-Jump.distance = search rules in
    jump_inside c.args.insn.now c.in-Jump.distance _ c.args.unit (length c.args.pending.now.items) c.in-Jump.is same c.requires.inside

pub pass_jump-requires-in-LongJump-clause-edges : goal.pass_jump-requires-in-LongJump-clause-edges
pass_jump-requires-in-LongJump-clause-edges c =
    let same : to_z w32 (of_z w32 c.in-LongJump.distance) ≡ c.in-LongJump.distance = search rules in
    long_inside c.args.insn.now c.in-LongJump.distance _ c.args.unit (length c.args.pending.now.items) c.in-LongJump.is same c.requires.inside

pub pass_branch-done-requires-clause-edges : goal.pass_branch-done-requires-clause-edges
pass_branch-done-requires-clause-edges c =
    let same : to_z w16 (of_z w16 c.in-Branch.distance) ≡ c.in-Branch.distance = search rules in
    branch_inside c.args.insn.now c.in-Branch.width c.in-Branch.condition c.in-Branch.dst c.in-Branch.operand c.in-Branch.distance _ c.args.unit (length c.args.pending.now.items)
    c.in-Branch.is same c.requires.inside
