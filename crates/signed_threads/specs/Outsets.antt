-- How a letter is compared with the context and the outbox with which its general began (own).
use Rattle.std.specs.Prelude.{ℕ, ◌≡◌, false, List}
use Rattle.outbox.specs.Contents.{Contents}
use Rattle.round.specs.Scenario.{Scenario, is_traitor}
use Rattle.round.specs.Letters.{Letter}

-- States that the letter of general `g` has this context and the relay of this outbox, and, if he is loyal, this
-- outbox.
pub record HasOutset (s : Scenario) (g : ℕ) (l : Letter) (context : List ℕ) (o : Contents) : Type 0 where
  pub same_context : l.context ≡ context
  pub relay : l.outbox.relay ≡ o.relay
  pub loyal : is_traitor s g ≡ false → l.outbox ≡ o
