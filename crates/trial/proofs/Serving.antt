-- Requests of a trial, answered one after another.
use Rattle.std.proofs.Common.{◌≡◌, ℕ, zero, suc, ◌+◌, ◌-◌, ◌<◌, ◌≤◌, List, Some, sym, ap, subst, ◌∙◌, length, arith}
use Rattle.insn.specs.declared.insn.Insn.{Insn}
use Rattle.semantics.specs.Relay.{Relay}
use Rattle.semantics.specs.declared.request.Request.{Request}
use Rattle.semantics.specs.State.{State, Outcome, Next, Ask, Exit, entry}
use Rattle.semantics.specs.Outbox.{empty_outbox}
use Rattle.semantics.specs.Call.{resumed}
use Rattle.semantics.specs.Execution.{step}
use Rattle.semantics.specs.Run.{IsSound}
use Rattle.semantics.specs.Whole.{CountsOnce}
use Rattle.semantics.proofs.StepLaws.{step_counts, resumed_counts}
use Rattle.board.specs.Board.{reply, next}
use Rattle.board.specs.Ledger.{RecordedBoard}
use Rattle.machine.specs.Standing.{Standing, before}
use Rattle.machine.specs.Advance.{IsOfRun, Leads, Requests, Exits}
use Rattle.machine.proofs.AdvanceLemmas.{fewer}
use Rattle.trial.specs.Trial.{served, ending, trial_on}

-- States what the further part of a trial leads to, from the program's state and the board's words.
pub record IsServing (program : List Insn) (context : List ℕ) (relay : Relay) (words : List ℕ) (a : Standing) (b : RecordedBoard) : Type 0 where
  pub of_run : IsOfRun program context a
  pub relay_kept : a.relay ≡ relay
  pub rest : ending program context relay (length program - a.state.steps) b.words a.state ≡ trial_on words program context relay

pub served_from : (program : List Insn) (context : List ℕ) (relay : Relay) (words : List ℕ) (a : Standing) (b : RecordedBoard) → IsOfRun program context a → a.relay ≡ relay →
    b.words ≡ words → a.state ≡ entry (empty_outbox relay) → IsServing program context relay words a b
served_from program context relay words a b run same opened begun =
    record {
      of_run = run;
      relay_kept = same;
      rest = (let all : length program - 0 ≡ length program = omega arith in rw (begun, opened) (ap (λ (k : ℕ). ending program context relay k words (entry (empty_outbox relay))) all));
    }

-- Proves that a step without a request leads to the same end.
ending_next : (program : List Insn) (context : List ℕ) (relay : Relay) (k : ℕ) (words : List ℕ) (s t : State) → step program context relay s ≡ Next t
    → ending program context relay (suc k) words s ≡ ending program context relay k words t
unfolding ending
ending_next program context relay k words s t e = ap (λ (o : Outcome). served (λ left u. ending program context relay k left u) words o) e

ending_asks : (program : List Insn) (context : List ℕ) (relay : Relay) (k : ℕ) (words : List ℕ) (s t : State) (request : Request) → step program context relay s ≡ Ask request t
    → ending program context relay (suc k) words s ≡ ending program context relay k (next words request) (resumed request (reply words request) t)
unfolding ending
ending_asks program context relay k words s t request e = ap (λ (o : Outcome). served (λ left u. ending program context relay k left u) words o) e

ending_exits : (program : List Insn) (context : List ℕ) (relay : Relay) (k : ℕ) (words : List ℕ) (s out : State) (r0 : ℕ) → step program context relay s ≡ Exit r0 out
    → ending program context relay (suc k) words s ≡ Some (record { r0 = r0; state = out; words = words })
unfolding ending
ending_exits program context relay k words s out r0 e = ap (λ (o : Outcome). served (λ left u. ending program context relay k left u) words o) e

pub leads_counts : (program : List Insn) (context : List ℕ) (relay : Relay) (n : ℕ) (s t : State) → Leads program context relay n s t → s.steps ≤ t.steps
leads_counts program context relay zero s t same = let e : s.steps ≡ t.steps = ap (λ (u : State). u.steps) same in omega arith
leads_counts program context relay (suc n) s t (next, is, more) =
    let counted : next.steps ≡ s.steps + 1 = subst (λ (o : Outcome). CountsOnce s o) is (step_counts program context relay s) in
    let ih = leads_counts program context relay n next t more in
    omega arith

-- Proves that several steps without a request lead to the same end.
ending_leads : (program : List Insn) (context : List ℕ) (relay : Relay) (n : ℕ) (words : List ℕ) (s t : State) → Leads program context relay n s t → t.steps < length program
    → ending program context relay (length program - s.steps) words s ≡ ending program context relay (length program - t.steps) words t
ending_leads program context relay zero words s t same lt = ap (λ (u : State). ending program context relay (length program - u.steps) words u) same
ending_leads program context relay (suc n) words s t (u, is, more) lt =
    let counted : u.steps ≡ s.steps + 1 = subst (λ (o : Outcome). CountsOnce s o) is (step_counts program context relay s) in
    let few : u.steps ≤ t.steps = leads_counts program context relay n u t more in
    let left : length program - s.steps ≡ suc (length program - u.steps) = omega arith in
    ap (λ (k : ℕ). ending program context relay k words s) left
    ∙ (ending_next program context relay (length program - u.steps) words s u is
    ∙ ending_leads program context relay n words u t more lt)

-- Proves that the trial continues after the board's answer.
pub serves_on : (program : List Insn) (context : List ℕ) (relay : Relay) (opening : List ℕ) (limit : ℕ) (a v t : Standing) (b d : RecordedBoard) (request : Request) (words : List ℕ) (s : IsServing program context relay opening a b) → limit ≤ length program →
    Requests program context a.relay s.of_run.answers limit a.state request v → t.relay ≡ v.relay → t.state ≡ resumed request words v.state → IsOfRun program context t →
    words ≡ reply b.words request → d.words ≡ next b.words request → IsServing program context relay opening t d
serves_on program context relay opening limit a v t b d request words s few r same is run answer left =
    let most = length program in
    let last = before v.state in
    let leads : Leads program context relay r.taken a.state last = subst (λ (own : Relay). Leads program context own r.taken a.state last) s.relay_kept r.leads in
    let asks : step program context relay last ≡ Ask request v.state = ap (λ (own : Relay). step program context own last) (sym s.relay_kept) ∙ r.asks in
    let on : t.state ≡ resumed request (reply b.words request) v.state = is ∙ ap (λ (l : List ℕ). resumed request l v.state) answer in
    let asked : 0 < v.state.steps = r.counted in
    let early : v.state.steps - 1 < most = (let h = r.early in omega arith) in
    let kept : t.state.steps ≡ v.state.steps = ap (λ (u : State). u.steps) is ∙ resumed_counts request words v.state in
    let fewer_left : most - (v.state.steps - 1) ≡ suc (most - t.state.steps) = omega arith in
    record {
      of_run = run;
      relay_kept = same ∙ (r.relay_kept ∙ s.relay_kept);
      rest = (
          ap (λ (ws : List ℕ). ending program context relay (most - t.state.steps) ws t.state) left
          ∙ (ap (λ (u : State). ending program context relay (most - t.state.steps) (next b.words request) u) on
          ∙ (sym (ending_asks program context relay (most - t.state.steps) b.words last v.state request asks)
          ∙ (ap (λ (k : ℕ). ending program context relay k b.words last) (sym fewer_left)
          ∙ (sym (ending_leads program context relay r.taken b.words a.state last leads early) ∙ s.rest))))
          );
    }

-- Proves that after each answer fewer steps remain.
pub goes_further : (program : List Insn) (context : List ℕ) (limit : ℕ) (answers : List (List ℕ)) (a v t : Standing) (request : Request) (words : List ℕ) → IsSound program → IsOfRun program context a →
    Requests program context a.relay answers limit a.state request v → t.state ≡ resumed request words v.state → length program - t.state.steps < length program - a.state.steps
goes_further program context limit answers a v t request words sound run r is =
    let less : a.state.steps < length program = fewer program context a sound run in
    let on : a.state.steps ≤ v.state.steps - 1 = leads_counts program context a.relay r.taken a.state (before v.state) r.leads in
    let asked : 0 < v.state.steps = r.counted in
    let same : t.state.steps ≡ v.state.steps = ap (λ (u : State). u.steps) is ∙ resumed_counts request words v.state in
    omega arith

-- Proves the claim at the exit.
pub served_to : (program : List Insn) (context : List ℕ) (relay : Relay) (opening : List ℕ) (limit r0 : ℕ) (a new : Standing) (b : RecordedBoard) (s : IsServing program context relay opening a b) → limit ≤ length program →
    Exits program context a.relay s.of_run.answers limit a.state r0 new → trial_on opening program context relay ≡ Some (record { r0 = r0; state = new.state; words = b.words })
served_to program context relay opening limit r0 a new b s few e =
    let most = length program in
    let leads : Leads program context relay e.taken a.state e.last = subst (λ (own : Relay). Leads program context own e.taken a.state e.last) s.relay_kept e.leads in
    let exit : step program context relay e.last ≡ Exit r0 new.state = ap (λ (own : Relay). step program context own e.last) (sym s.relay_kept) ∙ e.exit in
    let early : e.last.steps < most = (let h = e.early in omega arith) in
    let one : most - e.last.steps ≡ suc (most - e.last.steps - 1) = omega arith in
    sym s.rest
    ∙ (ending_leads program context relay e.taken b.words a.state e.last leads early
    ∙ (ap (λ (k : ℕ). ending program context relay k b.words e.last) one
    ∙ ending_exits program context relay (most - e.last.steps - 1) b.words e.last new.state r0 exit))
