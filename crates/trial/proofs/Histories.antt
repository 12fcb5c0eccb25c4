-- A trial as a sequence of accesses.
use Rattle.std.proofs.Common.{◌≡◌, ◌∙◌, ℕ, zero, suc, List, [], ◌∷◌, Some, None, false, length, ap, refl, sym, subst, arith}
use Rattle.std.specs.Prelude.{IsSome}
use Rattle.insn.specs.declared.insn.Insn.{Insn}
use Rattle.semantics.specs.Relay.{Relay, IsRelay, IsContext}
use Rattle.semantics.specs.Run.{IsSound}
use Rattle.semantics.specs.Safety.{LeadsTo, IsSafe}
use Rattle.semantics.proofs.SafetyLaws.{safe_of_sound}
use Rattle.semantics.specs.declared.request.Request.{Request}
use Rattle.semantics.specs.State.{State, Outcome, Next, Ask, Exit, Trap, entry}
use Rattle.semantics.specs.Outbox.{empty_outbox}
use Rattle.semantics.specs.Call.{resumed}
use Rattle.semantics.specs.Execution.{step}
use Rattle.board.specs.Board.{Access, IsBoard, IsLegal, words_after, reply, next}
use Rattle.board.proofs.Asking.{asks_within}
use Rattle.board.proofs.Serving.{reply_fits, next_board}
use Rattle.round.specs.Activation.{Activation, turned}
use Rattle.round.specs.Runs.{Onward, Runs, AreFitting}
use Rattle.round.specs.Running.{AreAccessesOf}
use Rattle.round.proofs.Onwards.{all_none}
use Rattle.trial.specs.Trial.{Ending, accesses, served, ending, trial_on}
use Rattle.trial.proofs.Entering.{accesses_asks, accesses_exits, accesses_next}
use Rattle.trial.specs.Laws.{IsGeneralsRun}

-- The state of the trial as an activation without patience.
abbrev here : List Insn → List ℕ → Relay → State → Activation
here program context relay s =
    record { program = program; context = context; relay = relay; patience = None; state = s; over = false }

-- The accesses of at most k steps from a state to the exit.
record Went (program : List Insn) (context : List ℕ) (relay : Relay) (k : ℕ) (words : List ℕ) (s : State) (e : Ending) : Type 0 where
  ledger : List Access
  whole : ledger ≡ accesses program context relay k words s
  last : State
  steps : ℕ
  run : Runs steps (here program context relay s) ledger (here program context relay last)
  own : AreAccessesOf relay.shape.general relay.shape.round ledger
  fitting : AreFitting ledger
  exit : step program context relay last ≡ Exit e.r0 e.state
  legal : IsLegal words ledger
  left : e.words ≡ words_after words ledger

own_more : (general round : ℕ) (a : Access) (ledger : List Access) → (a.general ≡ general) × (a.round ≡ round) → AreAccessesOf general round ledger → AreAccessesOf general round (a ∷ ledger)
own_more general round a ledger h all zero d lt = h
own_more general round a ledger h all (suc k) d lt = all k d (omega arith)

-- Proves the claim for a step without a request.
went_next : (program : List Insn) (context : List ℕ) (relay : Relay) (k : ℕ) (words : List ℕ) (s t : State) (e : Ending) → step program context relay s ≡ Next t → Went program context relay k words t e → Went program context relay (suc k) words s e
went_next program context relay k words s t e is w = record {
  ledger = w.ledger;
  whole = w.whole ∙ sym (accesses_next program context relay k words s t is);
  last = w.last;
  steps = suc w.steps;
  run = subst (λ (o : Outcome). Onward (Runs w.steps) (turned (here program context relay s) o) w.ledger (here program context relay w.last)) (sym is) w.run;
  own = w.own;
  fitting = w.fitting;
  exit = w.exit;
  legal = w.legal;
  left = w.left;
}

-- Proves the claim for a request and its answer.
went_asks : (program : List Insn) (context : List ℕ) (relay : Relay) (k : ℕ) (words : List ℕ) (s t : State) (request : Request) (e : Ending) → IsBoard words → step program context relay s ≡ Ask request t
    → Went program context relay k (next words request) (resumed request (reply words request) t) e → Went program context relay (suc k) words s e
went_asks program context relay k words s t request e board is w =
    let a : Access = record { general = relay.shape.general; round = relay.shape.round; request = request; reply = reply words request } in
    record {
      ledger = a ∷ w.ledger;
      whole = ap (λ (l : List Access). a ∷ l) w.whole ∙ sym (accesses_asks program context relay k words s t request is);
      last = w.last;
      steps = suc w.steps;
      run = subst (λ (o : Outcome). Onward (Runs w.steps) (turned (here program context relay s) o) (a ∷ w.ledger) (here program context relay w.last)) (sym is) (refl, w.run);
      own = own_more relay.shape.general relay.shape.round a w.ledger (refl, refl) w.own;
      fitting = (reply_fits words request board (asks_within program context relay s t request is), w.fitting);
      exit = w.exit;
      legal = (refl, w.legal);
      left = w.left;
    }

went_exits : (program : List Insn) (context : List ℕ) (relay : Relay) (k : ℕ) (words : List ℕ) (s t : State) (r0 : ℕ) (e : Ending) → step program context relay s ≡ Exit r0 t
    → record { r0 = r0; state = t; words = words } ≡ e → Went program context relay (suc k) words s e
went_exits program context relay k words s t r0 e is same = subst (λ (f : Ending). Went program context relay (suc k) words s f) same (record {
  ledger = [];
  whole = sym (accesses_exits program context relay k words s t r0 is);
  last = s;
  steps = 0;
  run = (refl, refl);
  own = all_none relay.shape.general relay.shape.round;
  fitting = tt;
  exit = is;
  legal = tt;
  left = refl;
})

went : (program : List Insn) (context : List ℕ) (relay : Relay) (k : ℕ) (words : List ℕ) (s : State) (e : Ending) → IsBoard words → ending program context relay k words s ≡ Some e → Went program context relay k words s e
unfolding ending
went program context relay zero words s e board is = absurd (let h = is in cc)
went program context relay (suc k) words s e board is = by (λ left t kept rest. went program context relay k left t e kept rest) (step program context relay s) refl is
  where
    by : ((left : List ℕ) (t : State) → IsBoard left → ending program context relay k left t ≡ Some e → Went program context relay k left t e) → (o : Outcome) → step program context relay s ≡ o → served (λ left t. ending program context relay k left t) words o ≡ Some e → Went program context relay (suc k) words s e
    by ih (Next t) same rest = went_next program context relay k words s t e same (ih words t board rest)
    by ih (Ask request t) same rest =
        went_asks program context relay k words s t request e board same
        (ih (next words request) (resumed request (reply words request) t) (next_board words request board (asks_within program context relay s t request same)) rest)
    by ih (Exit r0 t) same rest = went_exits program context relay k words s t r0 e same (let h = rest in cc)
    by ih (Trap cause) same rest = absurd (let h = rest in cc)

pub trial_is_run : (words : List ℕ) (program : List Insn) (context : List ℕ) (relay : Relay) (e : Ending) → IsBoard words → trial_on words program context relay ≡ Some e
    → IsGeneralsRun words program context relay e
trial_is_run words program context relay e board is =
    let w = went program context relay (length program) words (entry (empty_outbox relay)) e board is in
    record {
      ledger = w.ledger;
      whole = w.whole;
      last = here program context relay w.last;
      way = record { same = record { program = refl; context = refl; relay = refl; patience = refl }; run = (w.steps, w.run); own = w.own; fitting = w.fitting };
      going = refl;
      exit = w.exit;
      legal = w.legal;
      left = w.left;
    }

-- Proves that the trial from a safe state ends.
ends : (program : List Insn) (context : List ℕ) (relay : Relay) (k : ℕ) (words : List ℕ) (s : State) → IsBoard words → IsSafe program context relay k s → IsSome (ending program context relay k words s)
unfolding ending IsSafe
ends program context relay zero words s board safe = absurd safe
ends program context relay (suc k) words s board safe = by (λ left t kept rest. ends program context relay k left t kept rest) (step program context relay s) refl safe
  where
    by : ((left : List ℕ) (t : State) → IsBoard left → IsSafe program context relay k t → IsSome (ending program context relay k left t)) → (o : Outcome) → step program context relay s ≡ o
        → LeadsTo (λ t. IsSafe program context relay k t) o → IsSome (served (λ left t. ending program context relay k left t) words o)
    by ih (Next t) same leads = ih words t board leads
    by ih (Ask request t) same leads =
        let within = asks_within program context relay s t request same in
        ih (next words request) (resumed request (reply words request) t) (next_board words request board within) (leads (reply words request) (reply_fits words request board within))
    by ih (Exit r0 t) same leads = refl
    by ih (Trap cause) same leads = absurd leads

pub trial_ends : (words : List ℕ) (program : List Insn) (context : List ℕ) (relay : Relay) → IsBoard words → IsSound program → IsContext context → IsRelay relay
    → IsSome (trial_on words program context relay)
trial_ends words program context relay board sound in_context in_limits =
    ends program context relay (length program) words (entry (empty_outbox relay)) board (safe_of_sound program context relay sound in_context in_limits)
