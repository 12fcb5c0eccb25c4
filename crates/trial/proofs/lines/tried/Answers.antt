use Rattle.std.proofs.lemmas.Result.{IfOk-weaker}
use Rattle.trial.proofs.Trying.{tried_is}
use Rattle.trial.proofs.lines.tried.Goals as goal

pub returns : goal.returns
returns c =
    let e = c.in_ok-exited.exited in
    IfOk-weaker c.lines.result _ _ (λ text lines.
    tried_is c.args.verified.now c.program.result.now c.args.setting.now _ c.board.result e.board.words e.activation.relay e.r0 e.activation.state
    c.in_ok-exited.ensures.relay c.program.ensures.same c.board.ensures c.in_ok-exited.ensures.ending lines) c.lines.ensures
