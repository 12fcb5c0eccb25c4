-- A run with its accesses is the run with their replies.
use Rattle.std.proofs.Common.{◌≡◌, ℕ, zero, suc, ◌+◌, ◌-◌, List, [], ◌∷◌, ◌++◌, length, map, Bool, true, false, refl, sym, ap, subst, ◌∙◌, None, arith, append-nil, append_assoc}
use Rattle.std.specs.Prelude.{◌||◌}
use Rattle.insn.specs.declared.insn.Insn.{Insn}
use Rattle.semantics.specs.Relay.{Relay, IsRelay, IsContext}
use Rattle.semantics.specs.Run.{IsSound, Exited, after, onwards}
use Rattle.semantics.specs.State.{State, Outcome, Next, Ask, Exit, Trap, entry}
use Rattle.semantics.specs.Outbox.{empty_outbox}
use Rattle.semantics.specs.Call.{fits, resumed}
use Rattle.semantics.specs.Execution.{step}
use Rattle.semantics.specs.Reached.{Reached, at_entry, stepped, answered}
use Rattle.semantics.specs.Safety.{LeadsTo}
use Rattle.semantics.proofs.ReachedLaws.{reached_safe, goes_on}
use Rattle.semantics.proofs.SafetyLaws.{IsSafe-no_trap}
use Rattle.board.specs.Board.{Access}
use Rattle.round.specs.Activation.{Activation, started, turned, Turn, is_reached}
use Rattle.round.specs.Runs.{Onward, Runs, AreFitting}
use Rattle.round.specs.Laws.{RunsFollowAnswers}
use Rattle.round.proofs.Stepping.{runs_steps}
use Rattle.round.proofs.Going.{over_ended}

-- An activation that has exited stays so.
stays_over : (k : ℕ) (a : Activation) (t : List Access) (end : Activation) → a.over ≡ true → Runs k a t end → end.over ≡ true
stays_over zero a t end over h = ap (λ (b : Activation). b.over) (sym h.1) ∙ over
stays_over (suc k) a t end over h = absurd (let A : Turn → Type 0 = λ o. Onward (Runs k) o t end in subst A (over_ended a (ap (λ (b : Bool). b || is_reached a.patience a.state.steps) over)) h)

module _ (program : List Insn) (context : List ℕ) (relay : Relay) (sound : IsSound program) (is_context : IsContext context) (is_relay : IsRelay relay) where
  abbrev here : State → Activation
  here s =
      record { program = program; context = context; relay = relay; patience = None; state = s; over = false }

  reach_by : (k : ℕ) (s : State) (answers : List (List ℕ)) (t : List Access) (end : Activation) (o : Outcome) → step program context relay s ≡ o → Reached program context relay answers s → AreFitting t → end.over ≡ false
      → ((u : State) (more : List (List ℕ)) (t' : List Access) → Reached program context relay more u → AreFitting t' → Runs k (here u) t' end → Reached program context relay (more ++ map (λ x. x.reply) t') end.state)
      → Onward (Runs k) (turned (here s) o) t end → Reached program context relay (answers ++ map (λ x. x.reply) t) end.state
  reach_by k s answers t end (Next u) is r fit going again h = again u answers t (stepped u r is) fit h
  reach_by k s answers [] end (Ask q asked) is r fit going again h = absurd h
  reach_by k s answers (x ∷ t) end (Ask q asked) is r fit going again h =
      let fits_here : fits q x.reply ≡ true = ap (λ p. fits p x.reply) (sym h.0) ∙ fit.0 in
      let rest = again (resumed q x.reply asked) (answers ++ x.reply ∷ []) t (answered q asked x.reply r is fits_here) fit.1 h.1 in
      subst (λ (l : List (List ℕ)). Reached program context relay l end.state) (append_assoc answers (x.reply ∷ []) (map (λ x. x.reply) t)) rest
  reach_by k s answers t end (Exit r0 u) is r fit going again h =
      absurd (let e : true ≡ false = sym (stays_over k (record (here s) { state = u; over = true }) t end refl h) ∙ going in cc)
  reach_by k s answers t end (Trap cause) is r fit going again h =
      let safe = IsSafe-no_trap program context relay (length program - s.steps) s (reached_safe program context relay sound is_context is_relay r) in
      absurd (let A : Outcome → Type 0 = λ o. LeadsTo (λ next. Unit {0}) o in subst A is safe)

  pub runs_reach : (k : ℕ) (s : State) (answers : List (List ℕ)) (t : List Access) (end : Activation) → Reached program context relay answers s → AreFitting t → end.over ≡ false →
      Runs k (here s) t end → Reached program context relay (answers ++ map (λ x. x.reply) t) end.state
  runs_reach zero s answers t end r fit going h =
      let none : map (λ x. x.reply) t ≡ [] = ap (map (λ x. x.reply)) h.0 in
      subst (λ (l : List (List ℕ)). Reached program context relay l end.state) (sym (ap (λ (l : List (List ℕ)). answers ++ l) none ∙ append-nil answers))
      (subst (λ (b : Activation). Reached program context relay answers b.state) h.1 r)
  runs_reach (suc k) s answers t end r fit going h =
      reach_by k s answers t end (step program context relay s) refl r fit going (λ u more t' r' fit' h'. runs_reach k u more t' end r' fit' going h') h

exit_follows : (program : List Insn) (context : List ℕ) (relay : Relay) (answers : List (List ℕ)) (s out : State) (k r0 : ℕ) → Reached program context relay answers s → s.steps ≡ k → step program context relay s ≡ Exit r0 out → after program context relay answers (suc k) ≡ Exited r0 out
unfolding onwards
exit_follows program context relay answers s out k r0 r counted is =
    let n : suc k ≡ s.steps + 1 = omega arith in
    ap (λ (m : ℕ). onwards program context relay m answers (entry (empty_outbox relay))) n
    ∙ (ap (λ (l : List (List ℕ)). onwards program context relay (s.steps + 1) l (entry (empty_outbox relay))) (sym (append-nil answers))
    ∙ (goes_on program context relay r [] 1 ∙ one_on is))
  where
    one_on : step program context relay s ≡ Exit r0 out → onwards program context relay 1 [] s ≡ Exited r0 out
    one_on e = rw e refl

pub proved_runs_follow_answers : RunsFollowAnswers
proved_runs_follow_answers = record {
  reached = λ program context relay k t end sound c h fit run going. runs_reach program context relay sound c h k (entry (empty_outbox relay)) [] t end at_entry fit going run;
  exited = λ program context relay k t end r0 out sound c h fit run going is.
      let r = runs_reach program context relay sound c h k (entry (empty_outbox relay)) [] t end at_entry fit going run in
      exit_follows program context relay (map (λ x. x.reply) t) end.state out k r0 r (let e : end.state.steps ≡ 0 + k = runs_steps k (started None program context relay) t end run in omega arith) is;
}
