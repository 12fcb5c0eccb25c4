-- What holds for contexts, letters and activations. Each statement is the contract of a function of this crate.
use Rattle.std.specs.Prelude.{ℕ, suc, ◌≡◌, ◌≢◌, ◌<◌, ◌≤◌, ◌^◌, false, List, length, map, slice_get, Option, None, Some}
use Rattle.insn.specs.declared.insn.Insn.{Insn}
use Rattle.label.specs.Relay.{IsShape, relay}
use Rattle.semantics.specs.Relay.{Relay, IsRelay, IsContext}
use Rattle.semantics.specs.State.{State, Cause, Exit, Trap}
use Rattle.semantics.specs.Outbox.{taken_value}
use Rattle.semantics.specs.Execution.{step}
use Rattle.semantics.specs.Run.{IsSound, Exited, after}
use Rattle.semantics.specs.Reached.{Reached}
use Rattle.outbox.specs.Contents.{Contents, order_at}
use Rattle.board.specs.Board.{Access}
use Rattle.round.specs.Scenario.{Scenario, IsScenario, shape_of}
use Rattle.round.specs.Letters.{Letter, tells}
use Rattle.round.specs.Contexts.{AreWords, took, context_of, number_told, at_general, at_round, IsToldTo, shape_told, tells_oral, letter_told, faithful_letter}
use Rattle.round.specs.Activation.{Activation, started, has_ended}
use Rattle.round.specs.Runs.{Runs, IsWithin, AreFitting, IsLetter}

-- States what a context contains: the general's number, the round, the number of generals and the commander, that
-- orders are oral, and the order that he took for each label that he relays.
pub record ContextsTell : Type 0 where
  pub own : (s : Scenario) (before : List (List Letter)) (g : ℕ) → IsScenario s → g < s.generals →
      length before ≤ s.bound → IsToldTo g (suc (length before)) (context_of s before g)
  pub shape : (s : Scenario) (before : List (List Letter)) (g : ℕ) → IsScenario s → g < s.generals →
      length before ≤ s.bound →
      shape_told g (suc (length before)) (context_of s before g) ≡ shape_of s g (suc (length before))
  pub spoken : (s : Scenario) (before : List (List Letter)) (g : ℕ) → IsScenario s → tells_oral (context_of s before g)
  pub values : (s : Scenario) (before : List (List Letter)) (g rank : ℕ) (label : List ℕ) → IsScenario s →
      g < s.generals → length before ≤ s.bound →
      slice_get (relay (shape_of s g (suc (length before)))) rank ≡ Some label → took s before g label < 2 ^ 32 →
      taken_value (context_of s before g) rank ≡ took s before g label

-- States that a loyal general's letter depends only on his context, if the orders that he took have 32 bits. The letter
-- computed from any context is from the general and of the round that the context names.
pub record LoyalLettersFollow : Type 0 where
  pub letter : (s : Scenario) (before : List (List Letter)) (g : ℕ) → IsScenario s → g < s.generals →
      length before ≤ s.bound → AreWords s before g →
      letter_told g (suc (length before)) (context_of s before g) ≡ faithful_letter s before g
  pub kept : (context : List ℕ) → IsContext context →
      IsLetter (letter_told (number_told context at_general) (number_told context at_round) context)

-- States where an outbox keeps an order: the order that it sends to a receiver of a label is in the row of the label's
-- rank.
pub record OutboxesTell : Type 0 where
  pub orders : (outbox : Contents) (label : List ℕ) (rank receiver : ℕ) → IsShape outbox.relay.shape →
      slice_get (relay outbox.relay.shape) rank ≡ Some label →
      tells outbox label receiver ≡ order_at outbox.relay outbox.rows rank receiver

-- States that runs are deterministic: two runs with the same start, the same number of steps and the same accesses end
-- in the same state. The runs need not be finished.
abbrev pub RunsHaveOneEnd : Type 0
RunsHaveOneEnd = (k : ℕ) (start : Activation) (transcript : List Access) (one two : Activation) →
    Runs k start transcript one → Runs k start transcript two → one ≡ two

-- States that a patience does not change a run until it is used up.
pub record PatienceIsKept : Type 0 where
  pub steps : (patience : Option ℕ) (program : List Insn) (context : List ℕ) (relay : Relay) (k : ℕ)
      (transcript : List Access) (end : Activation) →
      Runs k (started patience program context relay) transcript end → end.state.steps ≡ k
  pub within : (patience : Option ℕ) (program : List Insn) (context : List ℕ) (relay : Relay) (k : ℕ)
      (transcript : List Access) (end : Activation) →
      Runs k (started patience program context relay) transcript end → IsWithin patience k
  pub without : (patience : Option ℕ) (program : List Insn) (context : List ℕ) (relay : Relay) (k : ℕ)
      (transcript : List Access) (end : Activation) →
      Runs k (started patience program context relay) transcript end →
      Runs k (started None program context relay) transcript (record end { patience = None })
  pub under : (patience : Option ℕ) (program : List Insn) (context : List ℕ) (relay : Relay) (k : ℕ)
      (transcript : List Access) (end : Activation) → IsWithin patience k →
      Runs k (started None program context relay) transcript end →
      Runs k (started patience program context relay) transcript (record end { patience = patience })

-- States that the run of a sound program takes at most as many steps as the program has instructions, and that its next
-- step is never a trap.
pub record RunsAreSafe : Type 0 where
  pub fewer : (patience : Option ℕ) (program : List Insn) (context : List ℕ) (relay : Relay) (k : ℕ)
      (transcript : List Access) (end : Activation) →
      IsSound program → IsContext context → IsRelay relay → AreFitting transcript →
      Runs k (started patience program context relay) transcript end → k ≤ length program
  pub untrapped : (patience : Option ℕ) (program : List Insn) (context : List ℕ) (relay : Relay) (k : ℕ)
      (transcript : List Access) (end : Activation) (cause : Cause) →
      IsSound program → IsContext context → IsRelay relay → AreFitting transcript →
      Runs k (started patience program context relay) transcript end →
      has_ended end ≡ false → step end.program end.context end.relay end.state ≢ Trap cause

-- States that the state of a sound program's run depends only on its start and the replies that it has received. So
-- does whether its next step exits.
pub record RunsFollowAnswers : Type 0 where
  pub reached : (program : List Insn) (context : List ℕ) (relay : Relay) (k : ℕ) (transcript : List Access)
      (end : Activation) →
      IsSound program → IsContext context → IsRelay relay → AreFitting transcript →
      Runs k (started None program context relay) transcript end → end.over ≡ false →
      Reached program context relay (map (λ a. a.reply) transcript) end.state
  pub exited : (program : List Insn) (context : List ℕ) (relay : Relay) (k : ℕ) (transcript : List Access)
      (end : Activation) (r0 : ℕ) (out : State) →
      IsSound program → IsContext context → IsRelay relay → AreFitting transcript →
      Runs k (started None program context relay) transcript end → end.over ≡ false →
      step program context relay end.state ≡ Exit r0 out →
      after program context relay (map (λ a. a.reply) transcript) (suc k) ≡ Exited r0 out
