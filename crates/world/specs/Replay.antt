-- What lists of events and ledgers determine, in oral or signed campaigns. Each law is the contract of a function, in
-- this crate for oral ones.
use Rattle.std.specs.Prelude.{ℕ, ◌≡◌, ◌<◌, true, All, List, [], map, flat_map}
use Rattle.semantics.specs.declared.request.Request.{Request}
use Rattle.board.specs.Board.{Access, words_after, IsLegal}
use Rattle.round.specs.Scenario.{Scenario, IsScenario, is_traitor}
use Rattle.round.specs.Letters.{Letter}
use Rattle.round.specs.Activation.{Activation, Asks, turn}
use Rattle.round.specs.Runs.{Runs}
use Rattle.world.specs.declared.event.Event.{Event}
use Rattle.world.specs.Kind.{Kind, opening, run}
use Rattle.world.specs.World.{World, oral_kind}
use Rattle.world.specs.World as oral
use Rattle.world.specs.KindLists.{AreMoves, IsRipe, IsComplete, listed, replayed, replay_world}
use Rattle.world.specs.KindAccounted.{AreAccounted, rounds_of, IsAccounted}
use Rattle.world.specs.Chronicle.{chronicle_of}
use Rattle.world.specs.Lists as plays

-- States that the events of every schedule and of every replay are complete.
pub record ListsAreComplete (K : Kind) : Type 0 where
  pub listed : (s : Scenario) (lines : List (List ℕ)) → IsScenario s → IsComplete K s (listed s lines)
  pub replayed : (s : Scenario) (names : List (List ℕ)) → IsScenario s → IsComplete K s (replayed K s names)

-- States that the ledger determines the world at the end of a round. Suppose moves lead from one world to two others in
-- which all loyal generals have posted and all activations have ended. If these have the same ledger, they are the
-- same. The reason is that a program's next request depends only on the replies to its earlier ones.
pub record LedgersDecide (K : Kind) : Type 0 where
  pub worlds : (s : Scenario) (before events others : List Event) → IsScenario s → AreMoves events → AreMoves others →
      IsRipe (run K (run K (opening K s) before) events) → IsRipe (run K (run K (opening K s) before) others) →
      (run K (run K (opening K s) before) events).ledger ≡ (run K (run K (opening K s) before) others).ledger →
      run K (run K (opening K s) before) events ≡ run K (run K (opening K s) before) others
  pub requests : (k j : ℕ) (start one two : Activation) (transcript served : List Access) (request other : Request)
      (answered resumed : List ℕ → Activation) →
      map (λ (access : Access). access.reply) transcript ≡ map (λ (access : Access). access.reply) served →
      Runs k start transcript one → Runs j start served two → turn one ≡ Asks request answered →
      turn two ≡ Asks other resumed → request ≡ other

-- States that a complete run ends in the same world as the replay of its own accesses, and that all of these were made
-- by generals of the campaign.
pub record RunsAreReplays (K : Kind) : Type 0 where
  pub worlds : (s : Scenario) (events : List Event) → IsScenario s → IsComplete K s events →
      replay_world K s (run K (opening K s) events).ledger ≡ run K (opening K s) events
  pub generals : (s : Scenario) (events : List Event) → IsScenario s → IsComplete K s events →
      All (λ a. a.general < s.generals) (run K (opening K s) events).ledger

-- Returns the world at the end of a ledger's replay in an oral campaign.
abbrev pub replay_of : Scenario → List Access → World
replay_of s ledger = replay_world oral_kind s ledger

-- States that a complete run has the same chronicle as the replay of its accesses.
abbrev pub ChroniclesAreReplays : Type 0
ChroniclesAreReplays = (s : Scenario) (events : List Event) → IsScenario s → plays.IsComplete s events →
    chronicle_of (oral.run (oral.opening s) events)
    ≡ chronicle_of (replay_of s (oral.run (oral.opening s) events).ledger)

-- States that, if a legal ledger accounts for letters, these are the letters of the ledger's replay, by round and
-- general.
pub record AccountsAreRuns (K : Kind) : Type 0 where
  pub rounds : (s : Scenario) (ledger : List Access) (rounds : List (List Letter)) → IsScenario s →
      IsLegal s.board ledger → AreAccounted K s [] ledger rounds →
      ((replay_world K s ledger).closed ≡ rounds) × ((replay_world K s ledger).ledger ≡ ledger)
  pub letters : (s : Scenario) (ledger : List Access) (letters : List Letter) → IsScenario s → IsLegal s.board ledger →
      IsAccounted K s ledger letters →
      ((replay_world K s ledger).closed ≡ rounds_of s letters) × ((replay_world K s ledger).ledger ≡ ledger)
  pub same : (s : Scenario) (ledger : List Access) (letters others : List Letter) → IsScenario s →
      IsLegal s.board ledger → IsAccounted K s ledger letters → IsAccounted K s ledger others →
      rounds_of s letters ≡ rounds_of s others

-- States that the ledger of a complete run is legal and accounts for its letters.
pub record RunsAreAccounted (K : Kind) : Type 0 where
  pub rounds : (s : Scenario) (events : List Event) → IsScenario s → IsComplete K s events →
      IsLegal s.board (run K (opening K s) events).ledger
      × AreAccounted K s [] (run K (opening K s) events).ledger (run K (opening K s) events).closed
  pub letters : (s : Scenario) (events : List Event) → IsScenario s → IsComplete K s events →
      IsAccounted K s (run K (opening K s) events).ledger
      (flat_map (λ (round : List Letter). round) (run K (opening K s) events).closed)

-- States that the world's ledger is legal, that its accesses have changed the scenario's words into the board's current
-- words, and that only traitors of the campaign have made accesses.
pub record IsLedgerOf (s : Scenario) (w : World) : Type 0 where
  pub legal : IsLegal s.board w.ledger
  pub words : w.words ≡ words_after s.board w.ledger
  pub traitors : All (λ a. (a.general < s.generals) × (is_traitor s a.general ≡ true)) w.ledger

-- States that in every world the ledger is legal, its accesses have changed the scenario's words into the board's
-- current words, and only traitors have made accesses.
abbrev pub LedgersAreLegal : Kind → Type 0
LedgersAreLegal K = (s : Scenario) (events : List Event) → IsScenario s → IsLedgerOf s (run K (opening K s) events)
