-- After each answer the run goes on as the definition says.
use Rattle.std.proofs.Common.{◌≤◌, length, ap, arith}
use Rattle.semantics.specs.Replies.{words_in}
use Rattle.semantics.specs.Relay.{oral}
use Rattle.trial.proofs.Serving.{serves_on, goes_further, served_to}
use Rattle.capi.specs.Runs.{host}
use Rattle.capi.proofs.Bare.{bare}
use Rattle.capi.proofs.running.run_over.Goals as goal

pub loop-request-preserved : goal.loop-request-preserved
loop-request-preserved c =
    let program = c.args.verified.now in let context = c.args.context.now in let s = c.loop-request.invariant in
    let few : c.len-limit.result ≤ length program = (let l = c.len-limit.ensures.len in let p = ap length c.program.ensures.same in omega arith) in
    serves_on program context (oral host) c.args.words.now c.len-limit.result c.loop-request.activation c.run.new.self c.resume.new.self (bare c.loop-request.words) (bare c.serve.new.words) c.in-Asked.request (words_in c.in_ok-reply-in-Asked.reply) s few
    (c.in-Asked.ensures.advances s.of_run.answers s.of_run.reached) c.resume.ensures.relay c.resume.ensures.resumed (c.resume.ensures.of_run program context c.in-Asked.ensures.of_run) c.in_ok-reply-in-Asked.ensures.answer c.in_ok-reply-in-Asked.ensures.words

pub loop-request-preserved-in_ok-reply-in-Asked : goal.loop-request-preserved-in_ok-reply-in-Asked
loop-request-preserved-in_ok-reply-in-Asked c =
    let program = c.args.verified.now in let context = c.args.context.now in let s = c.loop-request.invariant in
    let few : c.len-limit.result ≤ length program = (let l = c.len-limit.ensures.len in let p = ap length c.program.ensures.same in omega arith) in
    serves_on program context (oral host) c.args.words.now c.len-limit.result c.loop-request.activation c.run.new.self c.resume.new.self (bare c.loop-request.words) (bare c.serve.new.words) c.in-Asked.request (words_in c.in_ok-reply-in-Asked.reply) s few
    (c.in-Asked.ensures.advances s.of_run.answers s.of_run.reached) c.resume.ensures.relay c.resume.ensures.resumed (c.resume.ensures.of_run program context c.in-Asked.ensures.of_run) c.in_ok-reply-in-Asked.ensures.answer c.in_ok-reply-in-Asked.ensures.words

pub loop-request-smaller : goal.loop-request-smaller
loop-request-smaller c =
    let program = c.args.verified.now in let context = c.args.context.now in let s = c.loop-request.invariant in
    goes_further program context c.len-limit.result s.of_run.answers c.loop-request.activation c.run.new.self c.resume.new.self c.in-Asked.request (words_in c.in_ok-reply-in-Asked.reply) c.program.ensures.sound
    s.of_run (c.in-Asked.ensures.advances s.of_run.answers s.of_run.reached) c.resume.ensures.resumed

pub loop-request-smaller-in_ok-reply-in-Asked : goal.loop-request-smaller-in_ok-reply-in-Asked
loop-request-smaller-in_ok-reply-in-Asked c =
    let program = c.args.verified.now in let context = c.args.context.now in let s = c.loop-request.invariant in
    goes_further program context c.len-limit.result s.of_run.answers c.loop-request.activation c.run.new.self c.resume.new.self c.in-Asked.request (words_in c.in_ok-reply-in-Asked.reply) c.program.ensures.sound
    s.of_run (c.in-Asked.ensures.advances s.of_run.answers s.of_run.reached) c.resume.ensures.resumed

pub returns-in-Exited-clause-ending : goal.returns-in-Exited-clause-ending
returns-in-Exited-clause-ending c =
    let a = c.loop-request.activation in let s = c.loop-request.invariant in
    let few : c.len-limit.result ≤ length c.args.verified.now = (let l = c.len-limit.ensures.len in let p = ap length c.program.ensures.same in omega arith) in
    served_to c.args.verified.now c.args.context.now (oral host) c.args.words.now c.len-limit.result c.in-Exited.r0 a c.run.new.self (bare c.loop-request.words) s few
    (c.in-Exited.ensures.advances s.of_run.answers s.of_run.reached)
