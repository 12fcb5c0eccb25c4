-- What holds of every world of a signed campaign. Each statement is the contract of a function of this crate.
use Rattle.std.specs.Prelude.{ℕ, suc, ◌≡◌, ◌*◌, ◌<◌, ◌≤◌, true, List, [], ◌∷◌, ◌++◌, map, length, slice_get, Some, is_some}
use Rattle.std.specs.List.{AllByRecursion}
use Rattle.semantics.specs.Limits.{context_size, most_held}
use Rattle.semantics.specs.Entries.{is_sendable}
use Rattle.label.specs.Labels.{on}
use Rattle.round.specs.Scenario.{Scenario, IsScenario, is_traitor}
use Rattle.round.specs.Activation.{Activation}
use Rattle.world.specs.declared.event.Event.{Event}
use Rattle.world.specs.declared.event.Event.TheVariants.{Close}
use Rattle.world.specs.declared.part.Progress.TheVariants.{Acting}
use Rattle.world.specs.KindLists.{IsPunctual}
use Rattle.world.specs.Agreement.{IsFinished}
use Rattle.world.specs.Chronicle.{Chronicle}
use Rattle.signed.specs.Explained.{chains_of}
use Rattle.signed.specs.Chains.{Chain, Among, IsChain, orders}
use Rattle.signed.specs.Agreement.{IsSignedBound, SignedAgree}
use Rattle.signed.specs.Entries.{Dispatch, Entry, chain_of, dispatched, most_entries}
use Rattle.signed.specs.Contexts.{signed_context_numbers}
use Rattle.signed.specs.Sent.{Sent, sent_by}
use Rattle.signed.specs.Kind.{signed_kind, played, sent_after, held_in, accepted_in}

-- Returns the chains in this list, without their receivers.
abbrev pub chains_in : List Dispatch → List Chain
chains_in dispatches = map (λ x. x.chain) dispatches

-- States that general `g` sent this chain in round `last` or an earlier one.
pub record IsSentBy (sent : Sent) (g last : ℕ) (ch : Chain) : Type 0 where
  pub round : ℕ
  pub early : round ≤ last
  pub there : Among ch (chains_in (sent_by sent round g))

-- States that a chain that general `g` sent in round `r` is unforged. Different generals signed it, the commander first
-- and `g` last. Each of them has himself sent the chain up to his signature, in this round or an earlier one.
pub record IsUnforged (s : Scenario) (sent : Sent) (r g : ℕ) (ch : Chain) : Type 0 where
  pub chain : IsChain s.generals s.commander ch
  pub last : (u : List ℕ) × (ch.signers ≡ u ++ g ∷ [])
  pub own : (u : List ℕ) (h : ℕ) (v : List ℕ) → ch.signers ≡ u ++ h ∷ v →
      IsSentBy sent h r (record { order = ch.order; signers = u ++ h ∷ [] })

-- States that in every world all chains are unforged, whatever the traitors do.
abbrev pub ChainsAreUnforged : Type 0
ChainsAreUnforged = (s : Scenario) (events : List Event) (r g : ℕ) (ch : Chain) → IsScenario s →
    Among ch (chains_in (sent_by (sent_after s events) r g)) → IsUnforged s (sent_after s events) r g ch

-- States that no general accepts more than eight orders or sends more than eight chains in a round. Only orders that
-- the commander signed in round 1 are accepted.
pub record ChainsAreFew : Type 0 where
  pub first : (s : Scenario) (events : List Event) (p v : ℕ) → IsScenario s → p < s.generals →
      on (accepted_in s (played s events).closed p) v ≡ true →
      on (orders (chains_in (sent_by (sent_after s events) 1 s.commander))) v ≡ true
  pub orders : (s : Scenario) (events : List Event) (p : ℕ) → IsScenario s → p < s.generals →
      length (accepted_in s (played s events).closed p) ≤ most_entries
  pub few : (s : Scenario) (events : List Event) (r g : ℕ) → IsScenario s →
      length (sent_by (sent_after s events) r g) ≤ most_entries

-- States the agreement theorem for signed worlds (TOPLAS 1982, Theorem 2). Suppose a world is finished, with at most m
-- traitors among at least m + 2 generals. Then the loyal lieutenants accept the same orders, decide on the same one,
-- and obey a loyal commander. After punctual events that close all rounds, the world is finished.
pub record SignedWorldsAgree : Type 0 where
  pub full : (s : Scenario) (events : List Event) → IsPunctual signed_kind s events → (played s events).full ≡ true
  pub agree : (s : Scenario) (events : List Event) → IsScenario s → IsSignedBound s.generals s.bound (is_traitor s) →
      IsFinished (played s events) →
      SignedAgree s.generals s.commander s.order (is_traitor s) (accepted_in s (played s events).closed)
  pub punctual : (s : Scenario) (events : List Event) → IsScenario s → IsSignedBound s.generals s.bound (is_traitor s) →
      IsPunctual signed_kind s events → length (played s events).closed ≡ suc s.bound →
      SignedAgree s.generals s.commander s.order (is_traitor s) (accepted_in s (played s events).closed)

-- States that no general holds more than 384 chains, which is how many an entry's index can name, and that a context of
-- 4,096 bytes has room for them.
pub record HeldChainsAreFew : Type 0 where
  pub held : (s : Scenario) (events : List Event) (g : ℕ) → IsScenario s → g < s.generals →
      length (played s events).closed ≤ s.bound → length (held_in s (played s events).closed g) ≤ most_held
  pub context : (s : Scenario) (events : List Event) (g round : ℕ) → IsScenario s → g < s.generals →
      length (played s events).closed ≤ s.bound →
      4 * length (signed_context_numbers s.generals s.bound s.commander g round (held_in s (played s events).closed g))
      ≤ context_size

-- States that the machine, which knows only the signers of the chains held, accepts an entry exactly if the general may
-- sign a chain by it (`chain_of`). An activation has at most eight entries. When the round is closed, the chains of all
-- of them are sent.
pub record SignedEntriesAreSent : Type 0 where
  pub agree : (s : Scenario) (events : List Event) (g : ℕ) (a : Activation) (e : Entry) → IsScenario s →
      slice_get (played s events).parts g ≡ Some (Acting a) →
      is_sendable a.relay e ≡ is_some (chain_of s.commander g (held_in s (played s events).closed g) e)
  pub each : (s : Scenario) (events : List Event) (g : ℕ) (a : Activation) → IsScenario s →
      slice_get (played s events).parts g ≡ Some (Acting a) →
      AllByRecursion (λ e. is_some (chain_of s.commander g (held_in s (played s events).closed g) e) ≡ true)
      a.state.entries
  pub few : (s : Scenario) (events : List Event) (g : ℕ) (a : Activation) → IsScenario s →
      slice_get (played s events).parts g ≡ Some (Acting a) → length a.state.entries ≤ most_entries
  pub sent : (s : Scenario) (events : List Event) (g : ℕ) (a : Activation) → IsScenario s →
      slice_get (played s events).parts g ≡ Some (Acting a) →
      sent_by (sent_after s (events ++ Close ∷ [])) (suc (length (played s events).closed)) g
      ≡ dispatched s.generals s.commander g (held_in s (played s events).closed g) a.state.entries

-- States that the chains listed for a lieutenant as bringing him orders have exactly the orders that he accepts.
abbrev pub AcceptedOrdersDecide : Type 0
AcceptedOrdersDecide = (c : Chronicle) (p : ℕ) → orders (chains_of c p) ≡ accepted_in c.scenario c.letters p
