-- The activation has ended, ends without an access, or makes one.
use Rattle.std.proofs.Common.{◌∙◌, ℕ, refl, sym, subst}
use Rattle.round.specs.Activation.{Activation, turn}
use Rattle.round.specs.Running.{Silently, Pauses}
use Rattle.campaign_orders.proofs.access.next_access.Goals as goal

pub returns-then-has_ended : goal.returns-then-has_ended
returns-then-has_ended c = (c.args.running.now, (0, (refl, refl)), sym c.has_ended.ensures.ended ∙ c.if-has_ended.true)

pub returns-then-has_ended-2 : goal.returns-then-has_ended-2
returns-then-has_ended-2 c = (
  c.ahead.new.self,
  subst (λ (a : Activation). Silently a c.ahead.new.self) c.in_ok-copy.ensures c.ahead.ensures.went,
  sym c.has_ended-2.ensures.ended ∙ c.if-has_ended-2.true,
)

pub returns : goal.returns
returns c = record {
  before = c.ahead.new.self;
  after = c.turn.new.self;
  board = c.new-board.result;
  served = c.turn.new.board;
  round = 1;
  to_request = subst (λ (a : Activation). Silently a c.ahead.new.self) c.in_ok-copy.ensures c.ahead.ensures.went;
  pauses = subst (λ (n : ℕ). Pauses n c.ahead.new.self (turn c.ahead.new.self)) c.instructions_of-most.ensures c.ahead.ensures.pauses;
  goes_on = sym c.has_ended-2.ensures.ended ∙ c.if-has_ended-2.false;
  board_words = c.new-board.ensures.words;
  access = c.in_ok-turn.ensures.done;
  to_end = c.ahead-2.ensures.went;
  left_words = c.words.ensures.same;
}
