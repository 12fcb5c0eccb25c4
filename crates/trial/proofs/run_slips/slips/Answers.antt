use Rattle.std.proofs.Common.{List, ℕ, length, ap, sym}
use Rattle.std.specs.Prelude.{Some}
use Rattle.semantics.specs.Relay.{oral}
use Rattle.board.specs.Board.{reply}
use Rattle.trial.specs.Slips.{by_board, slips_on}
use Rattle.trial.proofs.SlipLemmas.{slipped_asked, slipped_end, slipped_went}
use Rattle.trial.proofs.run_slips.slips.Goals as goal

pub loop-activation-preserved-in-Onward : goal.loop-activation-preserved-in-Onward
loop-activation-preserved-in-Onward c =
    let program = c.args.verified.now in
    slipped_went by_board program c.args.context.now (oral c.args.shape) (length program) (slips_on c.args.words program c.args.context.now (oral c.args.shape)) c.loop-activation.activation c.step_noted.new.activation
    c.loop-activation.board.words c.loop-activation.calls.items c.step_noted.new.calls.items c.in_ok-step_noted.ensures.fewer c.loop-activation.invariant (rw c.in-Onward.is at c.in_ok-step_noted.ensures.noted)
    c.in_ok-step_noted.ensures.relay

pub loop-activation-preserved : goal.loop-activation-preserved
loop-activation-preserved c =
    let program = c.args.verified.now in
    let request = c.in-Asked.request in
    let words = c.loop-activation.board.words in
    let asked = rw c.in-Asked.is at c.in_ok-step_noted.ensures.noted in
    slipped_asked by_board program c.args.context.now (oral c.args.shape) (length program) (slips_on c.args.words program c.args.context.now (oral c.args.shape)) c.loop-activation.activation c.step_noted.new.activation
    c.answer.new.activation words c.answer.new.board.words request (reply words request) c.loop-activation.calls.items c.step_noted.new.calls.items c.in_ok-step_noted.ensures.fewer c.loop-activation.invariant
    asked c.in_ok-step_noted.ensures.relay (ap (λ (left : List ℕ). Some (reply words request, left)) (sym c.in_ok-answer-in-Asked.ensures.words)) c.in_ok-answer-in-Asked.ensures.relay
    c.in_ok-answer-in-Asked.ensures.state (c.in_ok-answer-in-Asked.ensures.of_run program c.args.context.now asked.of_run)

pub returns-in-Ended : goal.returns-in-Ended
returns-in-Ended c =
    let program = c.args.verified.now in
    slipped_end by_board program c.args.context.now (oral c.args.shape) (length program) (slips_on c.args.words program c.args.context.now (oral c.args.shape)) c.loop-activation.activation
    c.loop-activation.board.words c.loop-activation.calls.items c.step_noted.new.calls.items c.in_ok-step_noted.ensures.fewer c.loop-activation.invariant (rw c.in-Ended.is at c.in_ok-step_noted.ensures.noted)
