use Rattle.semantics.specs.Outbox.{empty_outbox}
use Rattle.semantics.proofs.WholeLaws.{entry_whole, step_whole, resumed_whole}
use Rattle.semantics.proofs.HoldingLaws.{reached_whole, reached_words}
use Rattle.semantics.proofs.laws.states_stay_whole.Goals as goal

pub returns : goal.returns
returns c = record {
  at_entry = λ shape. entry_whole (empty_outbox shape);
  stepped = step_whole;
  answered = resumed_whole;
  reached = λ program context relay answers s there. reached_whole program context relay there;
  words = λ program context relay answers s well c l there. reached_words program context relay well c l there;
}
