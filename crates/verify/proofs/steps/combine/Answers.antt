use Rattle.verify.proofs.CombineLemmas.{combine_left}
use Rattle.verify.proofs.steps.combine.Goals as goal

pub returns : goal.returns
returns c =
    combine_left c.args.width c.args.operation c.args.dst c.args.operand c.args.state.now c.first-first.result c.operand-second.result c.combine_at.new.registers c.combine_at.result
    c.requires c.first-first.ensures c.operand-second.ensures c.in_ok-check_set.ensures c.in_ok-check_set-2.ensures c.in_ok-check_writable.ensures
    c.combine_at.ensures.refused c.combine_at.ensures.written
