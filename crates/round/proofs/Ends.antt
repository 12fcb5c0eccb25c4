-- Where the runs of a program end.
use Rattle.std.proofs.Common.{◌≡◌, ℕ, zero, suc, ◌+◌, ◌≤◌, List, [], ◌∷◌, length, true, refl, sym, ap, subst, ◌∙◌, Option, None, arith}
use Rattle.insn.specs.declared.insn.Insn.{Insn}
use Rattle.semantics.specs.Relay.{Relay, IsRelay, IsContext}
use Rattle.semantics.specs.Run.{IsSound}
use Rattle.semantics.specs.State.{Outcome}
use Rattle.semantics.specs.Call.{fits}
use Rattle.semantics.specs.Safety.{LeadsTo}
use Rattle.semantics.proofs.SafetyLaws.{safe_of_sound, IsSafe-no_trap}
use Rattle.board.specs.Board.{Access}
use Rattle.round.specs.Activation.{Activation, started, Turn, Goes, Asks, Ended, turn}
use Rattle.round.specs.Runs.{Onward, Runs, IsWithin, AreFitting}
use Rattle.round.specs.Laws.{PatienceIsKept, RunsAreSafe}
use Rattle.round.proofs.Stepping.{runs_steps}
use Rattle.round.proofs.Patience.{runs_under, runs_kept, within_none}
use Rattle.round.proofs.Going.{IsGoing, TurnsTo, turn_safe, going_zero, over_ended}

-- Two runs with the same accesses end in the same state.
one_end : (o : Turn) (k : ℕ) (t : List Access) (u v : Activation)
    → ((a : Activation) (t' : List Access) → Runs k a t' u → Runs k a t' v → u ≡ v)
    → Onward (Runs k) o t u → Onward (Runs k) o t v → u ≡ v
one_end (Goes a) k t u v again h h' = again a t h h'
one_end (Asks q f) k [] u v again h h' = absurd h
one_end (Asks q f) k (x ∷ t) u v again h h' = again (f x.reply) t h.1 h'.1
one_end Ended k t u v again h h' = absurd h

pub same_end : (k : ℕ) (a : Activation) (t : List Access) (u v : Activation) → Runs k a t u → Runs k a t v → u ≡ v
same_end zero a t u v h h' = sym h.1 ∙ h'.1
same_end (suc k) a t u v h h' = one_end (turn a) k t u v (λ b t' r r'. same_end k b t' u v r r') h h'

-- The same for runs from the start of the program.
pub steps_taken : (p : Option ℕ) (program : List Insn) (context : List ℕ) (relay : Relay) (k : ℕ) (t : List Access) (end : Activation) → Runs k (started p program context relay) t end → end.state.steps ≡ k
steps_taken p program context relay k t end h = (let e : end.state.steps ≡ 0 + k = runs_steps k (started p program context relay) t end h in omega arith)

pub proved_patience_is_kept : PatienceIsKept
proved_patience_is_kept = record {
  steps = steps_taken;
  within = λ p program context relay k t end h.
      let kept = runs_kept p k (started p program context relay) t end (refl, within_none p) h in
      (let A : ℕ → Type 0 = λ n. IsWithin p n in subst A (steps_taken p program context relay k t end h) kept.1);
  without = λ p program context relay k t end h. runs_under None k (started p program context relay) t end tt h;
  under = λ p program context relay k t end within h.
      (let A : ℕ → Type 0 = λ n. IsWithin p n in
      runs_under p k (started None program context relay) t end (subst A (sym (steps_taken None program context relay k t end h)) within) h);
}

-- States that a run from an activation that is safe for `n` steps takes at most `n`, and its next step is no trap.
pub record Left (n k : ℕ) (end : Activation) : Type 0 where
  pub fewer : k ≤ n
  pub left : ℕ
  pub going : IsGoing left end

left_by : (n k : ℕ) (a : Activation) (o : Turn) (t : List Access) (end : Activation) → TurnsTo n a o
    → ((b : Activation) (t' : List Access) → AreFitting t' → IsGoing n b → Runs k b t' end → Left n k end)
    → AreFitting t → Onward (Runs k) o t end → Left (suc n) (suc k) end
left_by n k a (Goes b) t end after again fit h = (let l = again b t fit after.going h in record { fewer = (let m = l.fewer in omega arith); left = l.left; going = l.going })
left_by n k a (Asks q f) [] end after again fit h = absurd h
left_by n k a (Asks q f) (x ∷ t) end after again fit h =
    let fits_here : fits q x.reply ≡ true = ap (λ r. fits r x.reply) (sym h.0) ∙ fit.0 in
    let l = again (f x.reply) t fit.1 (after x.reply fits_here).going h.1 in
    record { fewer = (let m = l.fewer in omega arith); left = l.left; going = l.going }
left_by n k a Ended t end after again fit h = absurd h

pub runs_left : (n k : ℕ) (a : Activation) (t : List Access) (end : Activation) → AreFitting t → IsGoing n a → Runs k a t end → Left n k end
runs_left n zero a t end fit going h = record { fewer = omega arith; left = n; going = (let A : Activation → Type 0 = λ b. IsGoing n b in subst A h.1 going) }
runs_left zero (suc k) a t end fit going h =
    absurd (let A : Turn → Type 0 = λ o. Onward (Runs k) o t end in subst A (over_ended a (going_zero a going)) h)
runs_left (suc n) (suc k) a t end fit going h =
    left_by n k a (turn a) t end (turn_safe n a going) (λ b t' fit' going' h'. runs_left n k b t' end fit' going' h') fit h

pub proved_runs_are_safe : RunsAreSafe
proved_runs_are_safe = record {
  fewer = λ p program context relay k t end sound is_context is_relay fit h. (left p program context relay k t end sound is_context is_relay fit h).fewer;
  untrapped = λ p program context relay k t end cause sound is_context is_relay fit h on e.
      let l = left p program context relay k t end sound is_context is_relay fit h in
      let safe = IsSafe-no_trap end.program end.context end.relay l.left end.state (l.going on) in
      (let A : Outcome → Type 0 = λ o. LeadsTo (λ next. Unit {0}) o in subst A e safe);
}
  where
    left : (p : Option ℕ) (program : List Insn) (context : List ℕ) (relay : Relay) (k : ℕ) (t : List Access) (end : Activation) → IsSound program → IsContext context → IsRelay relay → AreFitting t
        → Runs k (started p program context relay) t end → Left (length program) k end
    left p program context relay k t end sound is_context is_relay fit h =
        runs_left (length program) k (started p program context relay) t end fit (λ on. safe_of_sound program context relay sound is_context is_relay) h
