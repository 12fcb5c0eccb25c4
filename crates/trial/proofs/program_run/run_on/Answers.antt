-- The run continues after each answer.
use Rattle.std.proofs.Common.{◌≤◌, length, ap, arith}
use Rattle.semantics.specs.Replies.{words_in}
use Rattle.semantics.specs.Relay.{oral}
use Rattle.round.proofs.Served.{any_error}
use Rattle.trial.proofs.Entering.{entered_all, entered_first, served_more}
use Rattle.trial.proofs.Serving.{goes_further, served_to}
use Rattle.trial.proofs.program_run.run_on.Goals as goal

pub loop-request-preserved : goal.loop-request-preserved
loop-request-preserved c =
    served_more c.args.verified.now c.program.result.now c.args.context.now c.args.shape c.len-limit.result c.loop-request.activation c.run.new.self c.resume.new.self c.args.board.now c.loop-request.board c.apply.new.self c.in-Asked.request (words_in c.in_ok-reply-in-Asked.reply)
    c.loop-request.invariant c.in-Asked.ensures.advances c.resume.ensures.resumed c.in_ok-reply-in-Asked.ensures.entered c.len-limit.ensures.len c.program.ensures.same c.resume.ensures.relay
    c.in-Asked.ensures.of_run c.resume.ensures.of_run c.in_ok-reply-in-Asked.ensures.answer c.in_ok-reply-in-Asked.ensures.words c.apply.ensures.opening

pub loop-request-preserved-in_ok-reply-in-Asked : goal.loop-request-preserved-in_ok-reply-in-Asked
loop-request-preserved-in_ok-reply-in-Asked c =
    served_more c.args.verified.now c.program.result.now c.args.context.now c.args.shape c.len-limit.result c.loop-request.activation c.run.new.self c.resume.new.self c.args.board.now c.loop-request.board c.apply.new.self c.in-Asked.request (words_in c.in_ok-reply-in-Asked.reply)
    c.loop-request.invariant c.in-Asked.ensures.advances c.resume.ensures.resumed c.in_ok-reply-in-Asked.ensures.entered c.len-limit.ensures.len c.program.ensures.same c.resume.ensures.relay
    c.in-Asked.ensures.of_run c.resume.ensures.of_run c.in_ok-reply-in-Asked.ensures.answer c.in_ok-reply-in-Asked.ensures.words c.apply.ensures.opening

pub loop-request-smaller : goal.loop-request-smaller
loop-request-smaller c =
    let program = c.args.verified.now in
    let context = c.args.context.now in
    let a = c.loop-request.activation in
    let s = c.loop-request.invariant.serving in
    goes_further program context c.len-limit.result s.of_run.answers a c.run.new.self c.resume.new.self c.in-Asked.request (words_in c.in_ok-reply-in-Asked.reply) c.program.ensures.sound
    s.of_run (c.in-Asked.ensures.advances s.of_run.answers s.of_run.reached) c.resume.ensures.resumed

pub loop-request-smaller-in_ok-reply-in-Asked : goal.loop-request-smaller-in_ok-reply-in-Asked
loop-request-smaller-in_ok-reply-in-Asked c =
    let program = c.args.verified.now in
    let context = c.args.context.now in
    let a = c.loop-request.activation in
    let s = c.loop-request.invariant.serving in
    goes_further program context c.len-limit.result s.of_run.answers a c.run.new.self c.resume.new.self c.in-Asked.request (words_in c.in_ok-reply-in-Asked.reply) c.program.ensures.sound
    s.of_run (c.in-Asked.ensures.advances s.of_run.answers s.of_run.reached) c.resume.ensures.resumed

pub returns-in-Exited-clause-ending : goal.returns-in-Exited-clause-ending
returns-in-Exited-clause-ending c =
    let a = c.loop-request.activation in
    let s = c.loop-request.invariant.serving in
    let few : c.len-limit.result ≤ length c.args.verified.now = (let l = c.len-limit.ensures.len in let p = ap length c.program.ensures.same in omega arith) in
    served_to c.args.verified.now c.args.context.now (oral c.args.shape) _ c.len-limit.result c.in-Exited.r0 a c.run.new.self c.loop-request.board s few
    (c.in-Exited.ensures.advances s.of_run.answers s.of_run.reached)

pub returns-in-Exited-clause-ledger : goal.returns-in-Exited-clause-ledger
returns-in-Exited-clause-ledger c =
    let a = c.loop-request.activation in
    let s = c.loop-request.invariant.serving in
    let few : c.len-limit.result ≤ length c.args.verified.now = (let l = c.len-limit.ensures.len in let p = ap length c.program.ensures.same in omega arith) in
    entered_all c.args.verified.now c.args.context.now c.args.shape _ c.len-limit.result c.in-Exited.r0 a c.run.new.self c.args.board.now c.loop-request.board s c.loop-request.invariant.entered few
    (c.in-Exited.ensures.advances s.of_run.answers s.of_run.reached)

pub returns-in_err-reply-in-Asked-clause-unserved : goal.returns-in_err-reply-in-Asked-clause-unserved
returns-in_err-reply-in-Asked-clause-unserved c =
    any_error _ _ (entered_first c.args.verified.now c.args.context.now c.args.shape c.args.board.now c.loop-request.board c.apply.new.self c.loop-request.activation c.loop-request.invariant c.in_err-reply-in-Asked.ensures.unserved)
