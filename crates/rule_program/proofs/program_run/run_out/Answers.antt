use Rattle.std.proofs.Common.{[]}
use Rattle.rule_program.proofs.RunLemmas.{exits_with, never_asked}
use Rattle.rule_program.proofs.program_run.run_out.Goals as goal

pub unreachable-requires : goal.unreachable-requires
unreachable-requires c =
    let a = c.args.machine.now in
    never_asked c.args.verified.now c.args.context.now a.relay [] c.len-limit.result a.state c.in-Asked.field-0 c.run.new.self c.requires.callless
    (c.in-Asked.ensures.advances [] c.requires.reached)

pub returns : goal.returns
returns c =
    let a = c.args.machine.now in
    exits_with c.args.verified.now c.args.context.now a.relay c.len-limit.result c.in-Exited.r0 a.state c.run.new.self
    (c.in-Exited.ensures.advances [] c.requires.reached) c.run.ensures.within c.requires.relay
