-- A run of `k` turns takes `k` steps.
use Rattle.std.proofs.Common.{◌≡◌, ℕ, zero, suc, ◌+◌, List, [], ◌∷◌, Bool, true, false, cond, refl, ap, ◌∙◌, arith}
use Rattle.semantics.specs.State.{Outcome, Next, Ask, Exit, Trap}
use Rattle.semantics.specs.Execution.{step}
use Rattle.semantics.specs.Whole.{CountsOnce}
use Rattle.semantics.proofs.StepLaws.{step_counts, resumed_counts}
use Rattle.board.specs.Board.{Access}
use Rattle.round.specs.Activation.{Activation, Turn, Goes, Asks, Ended, turned, turn, has_ended}
use Rattle.round.specs.Runs.{Onward, Runs}

abbrev pub CountsTurn : Activation → Turn → Type 0
CountsTurn a (Goes b) = b.state.steps ≡ a.state.steps + 1
CountsTurn a (Asks q f) = (r : List ℕ) → (f r).state.steps ≡ a.state.steps + 1
CountsTurn a Ended = Unit {0}

pub turned_counts : (a : Activation) (o : Outcome) → CountsOnce a.state o → CountsTurn a (turned a o)
turned_counts a (Next s) h = h
turned_counts a (Ask q s) h = λ r. resumed_counts q r s ∙ h
turned_counts a (Exit r0 s) h = h
turned_counts a (Trap cause) h = refl

pub turn_counts : (a : Activation) → CountsTurn a (turn a)
turn_counts a = by (has_ended a)
  where
    by : (b : Bool) → CountsTurn a (cond b Ended (turned a (step a.program a.context a.relay a.state)))
    by true = tt
    by false = turned_counts a (step a.program a.context a.relay a.state) (step_counts a.program a.context a.relay a.state)

steps_by : (a : Activation) (o : Turn) (k : ℕ) (t : List Access) (end : Activation)
    → ((b : Activation) (t' : List Access) → Runs k b t' end → end.state.steps ≡ b.state.steps + k)
    → CountsTurn a o → Onward (Runs k) o t end → end.state.steps ≡ a.state.steps + suc k
steps_by a (Goes b) k t end again counts h = (let e = again b t h in let c = counts in omega arith)
steps_by a (Asks q f) k [] end again counts h = absurd h
steps_by a (Asks q f) k (x ∷ t) end again counts h = (let e = again (f x.reply) t h.1 in let c = counts x.reply in omega arith)
steps_by a Ended k t end again counts h = absurd h

pub runs_steps : (k : ℕ) (a : Activation) (t : List Access) (end : Activation) → Runs k a t end → end.state.steps ≡ a.state.steps + k
runs_steps zero a t end h = (let e = ap (λ (b : Activation). b.state.steps) h.1 in omega arith)
runs_steps (suc k) a t end h = steps_by a (turn a) k t end (λ b t' h'. runs_steps k b t' end h') (turn_counts a) h
