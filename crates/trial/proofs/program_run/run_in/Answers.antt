-- The run in the context and relay of the setting.
use Rattle.std.proofs.Common.{◌∙◌}
use Rattle.std.proofs.lemmas.Result.{IfOk-weaker}
use Rattle.trial.proofs.Entering.{entered_in}
use Rattle.trial.proofs.Owning.{board_in}
use Rattle.trial.proofs.Trying.{ends_in, relay_in}
use Rattle.trial.proofs.program_run.run_in.Goals as goal

pub returns-clause-ending : goal.returns-clause-ending
returns-clause-ending c =
    IfOk-weaker c.run.result _ _ (λ e ended. ends_in c.args.verified.now c.args.setting.now c.new-context.result c.board.result c.shape.result _
    (c.new-context.ensures.same ∙ (c.as_slice.ensures.value ∙ c.in_ok-bytes.ensures.bytes)) c.shape.ensures.same c.board.ensures ended) c.run.ensures.ending

pub returns-clause-relay : goal.returns-clause-relay
returns-clause-relay c = IfOk-weaker c.run.result _ _ (λ e kept. relay_in c.args.setting.now c.shape.result e.activation.relay c.shape.ensures.same kept) c.run.ensures.relay

pub returns-clause-board : goal.returns-clause-board
returns-clause-board c = IfOk-weaker c.run.result _ _ (λ e own. board_in c.args.setting.now c.shape.result c.board.result e.board c.shape.ensures.same c.board.ensures own) c.run.ensures.board

pub returns-clause-ledger : goal.returns-clause-ledger
returns-clause-ledger c =
    IfOk-weaker c.run.result _ _ (λ e all. entered_in c.args.verified.now c.args.setting.now c.new-context.result c.board.result c.shape.result e.board.ledger
    (c.new-context.ensures.same ∙ (c.as_slice.ensures.value ∙ c.in_ok-bytes.ensures.bytes)) c.shape.ensures.same c.board.ensures all) c.run.ensures.ledger
