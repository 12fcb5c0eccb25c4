-- One step of the machine, and its line in a trace.
use Rattle.std.proofs.Common.{◌≡◌, ◌∙◌, ℕ, zero, suc, ◌+◌, ◌-◌, ◌<◌, ◌≤◌, List, [], ◌++◌, length, refl, sym, ap, subst, append_assoc, arith}
use Rattle.std.specs.Prelude.{Option, Some, None, codes}
use Rattle.insn.specs.declared.insn.Insn.{Insn}
use Rattle.insn.specs.Program.{instruction_at}
use Rattle.semantics.specs.Relay.{Relay}
use Rattle.semantics.specs.declared.request.Request.{Request}
use Rattle.semantics.specs.State.{State, Outcome, Next, Ask, Exit, entry}
use Rattle.semantics.specs.Outbox.{empty_outbox}
use Rattle.semantics.specs.Call.{resumed}
use Rattle.semantics.specs.Execution.{step}
use Rattle.semantics.specs.Run.{IsSound}
use Rattle.semantics.specs.Whole.{CountsOnce}
use Rattle.semantics.proofs.StepLaws.{step_counts}
use Rattle.board.specs.Board.{reply, next}
use Rattle.board.specs.Ledger.{RecordedBoard}
use Rattle.machine.specs.Standing.{Standing, before}
use Rattle.machine.specs.Advance.{IsOfRun, Leads, Requests, Exits, Stops}
use Rattle.machine.proofs.AdvanceLemmas.{fewer}
use Rattle.trial.specs.StepLines.{before_told, after_told, request_told}
use Rattle.trial.specs.Trace.{Rest, line_of, told, told_at, lines_from, trace_on}

-- ---- one step

counts : (program : List Insn) (context : List ℕ) (relay : Relay) (n : ℕ) (s t : State) → Leads program context relay n s t → t.steps ≡ s.steps + n
counts program context relay zero s t same = let e : s.steps ≡ t.steps = ap (λ (u : State). u.steps) same in omega arith
counts program context relay (suc n) s t (u, is, more) =
    let one : u.steps ≡ s.steps + 1 = subst (λ (o : Outcome). CountsOnce s o) is (step_counts program context relay s) in
    let rest : t.steps ≡ u.steps + n = counts program context relay n u t more in
    omega arith

-- Proves that a run with no step left stays in its state.
none_led : (program : List Insn) (context : List ℕ) (relay : Relay) (n : ℕ) (s t : State) → Leads program context relay n s t → t.steps < s.steps + 1 → s ≡ t
none_led program context relay zero s t leads few = leads
none_led program context relay (suc n) s t leads few =
    let many : t.steps ≡ s.steps + suc n = counts program context relay (suc n) s t leads in
    let no : ⊥ = omega arith in absurd no

one_led : (program : List Insn) (context : List ℕ) (relay : Relay) (n : ℕ) (s t : State) → Leads program context relay n s t → t.steps ≡ s.steps + 1 → step program context relay s ≡ Next t
one_led program context relay zero s t leads one =
    let same : t.steps ≡ s.steps + 0 = counts program context relay zero s t leads in
    let no : ⊥ = omega arith in absurd no
one_led program context relay (suc zero) s t (u, is, same) one = is ∙ ap Next same
one_led program context relay (suc (suc n)) s t leads one =
    let many : t.steps ≡ s.steps + suc (suc n) = counts program context relay (suc (suc n)) s t leads in
    let no : ⊥ = omega arith in absurd no

pub next_of : (program : List Insn) (context : List ℕ) (relay : Relay) (answers : List (List ℕ)) (limit : ℕ) (s : State) (t : Standing) → limit ≡ s.steps + 1
    → Stops program context relay answers limit s t → (step program context relay s ≡ Next t.state) × (t.state.steps ≡ s.steps + 1)
next_of program context relay answers limit s t is stops =
    let counted : t.state.steps ≡ s.steps + stops.taken = counts program context relay stops.taken s t.state stops.leads in
    let past : limit ≤ t.state.steps = stops.past in
    let some : 0 < stops.taken = omega arith in
    let exact : t.state.steps ≡ limit = stops.exactly some in
    let one : t.state.steps ≡ s.steps + 1 = omega arith in
    (one_led program context relay stops.taken s t.state stops.leads one, one)

pub exit_of : (program : List Insn) (context : List ℕ) (relay : Relay) (answers : List (List ℕ)) (limit : ℕ) (s : State) (r0 : ℕ) (t : Standing) → limit ≡ s.steps + 1
    → Exits program context relay answers limit s r0 t → step program context relay s ≡ Exit r0 t.state
exit_of program context relay answers limit s r0 t is e =
    let early : e.last.steps < limit = e.early in
    let here : s ≡ e.last = none_led program context relay e.taken s e.last e.leads (omega arith) in
    ap (step program context relay) here ∙ e.exit

pub ask_of : (program : List Insn) (context : List ℕ) (relay : Relay) (answers : List (List ℕ)) (limit : ℕ) (s : State) (request : Request) (t : Standing) → limit ≡ s.steps + 1
    → Requests program context relay answers limit s request t → (step program context relay s ≡ Ask request t.state) × (t.state.steps ≡ s.steps + 1)
ask_of program context relay answers limit s request t is r =
    let early : t.state.steps ≤ limit = r.early in
    let some : 0 < t.state.steps = r.counted in
    let few : (before t.state).steps < s.steps + 1 = omega arith in
    let here : s ≡ before t.state = none_led program context relay r.taken s (before t.state) r.leads few in
    let steps : s.steps ≡ t.state.steps - 1 = ap (λ (u : State). u.steps) here in
    (ap (step program context relay) here ∙ r.asks, omega arith)

-- ---- the line of a step

pub told_by : (program : List Insn) (context : List ℕ) (relay : Relay) (rest : Rest) (words : List ℕ) (s : State) (i : Insn) (o : Outcome)
    → instruction_at program s.unit ≡ Some i → step program context relay s ≡ o → told_at program context relay rest words s ≡ line_of rest words s i o
told_by program context relay rest words s i o here steps =
    ap (λ (found : Option Insn). told rest words s found (step program context relay s)) here ∙ ap (line_of rest words s i) steps

pub nothing_told : (program : List Insn) (context : List ℕ) (relay : Relay) (rest : Rest) (words : List ℕ) (s : State) → instruction_at program s.unit ≡ None
    → told_at program context relay rest words s ≡ []
nothing_told program context relay rest words s none = ap (λ (found : Option Insn). told rest words s found (step program context relay s)) none

regroup_next : (old b a n r new : List ℕ) → new ≡ ((old ++ b) ++ a) ++ n → old ++ (b ++ (a ++ (n ++ r))) ≡ new ++ r
regroup_next old b a n r new is =
    let same : (((old ++ b) ++ a) ++ n) ++ r ≡ old ++ (b ++ (a ++ (n ++ r))) = simp append_assoc in
    sym same ∙ ap (λ (l : List ℕ). l ++ r) (sym is)

regroup_asks : (old b a q n r mid new : List ℕ) → mid ≡ old ++ b → new ≡ ((mid ++ a) ++ q) ++ n → old ++ (b ++ (a ++ (q ++ (n ++ r)))) ≡ new ++ r
regroup_asks old b a q n r mid new begun is =
    let same : ((((old ++ b) ++ a) ++ q) ++ n) ++ r ≡ old ++ (b ++ (a ++ (q ++ (n ++ r)))) = simp append_assoc in
    sym same ∙ (ap (λ (m : List ℕ). (((m ++ a) ++ q) ++ n) ++ r) (sym begun) ∙ ap (λ (l : List ℕ). l ++ r) (sym is))

-- Proves that a text which grew two or three times grew by all these parts.
pub grew_twice : (new middle old b n : List ℕ) → new ≡ middle ++ n → middle ≡ old ++ b → new ≡ (old ++ b) ++ n
grew_twice new middle old b n last first = last ∙ ap (λ (l : List ℕ). l ++ n) first

pub grew_thrice : (new second first old b a n : List ℕ) → new ≡ second ++ n → second ≡ first ++ a → first ≡ old ++ b → new ≡ ((old ++ b) ++ a) ++ n
grew_thrice new second first old b a n last middle begun = last ∙ ap (λ (l : List ℕ). l ++ n) (middle ∙ ap (λ (l : List ℕ). l ++ a) begun)

-- Proves that the instruction found is the one at the unit.
pub found_here : (program own : List Insn) (unit at : ℕ) (i : Insn) → Some i ≡ instruction_at own at → own ≡ program → at ≡ unit → instruction_at program unit ≡ Some i
found_here program own unit at i found same is =
    sym (found ∙ (ap (λ (p : List Insn). instruction_at p at) same ∙ ap (λ (u : ℕ). instruction_at program u) is))

pub told_next : (program : List Insn) (context : List ℕ) (relay : Relay) (rest : Rest) (words : List ℕ) (s t : State) (i : Insn) (old new : List ℕ)
    → instruction_at program s.unit ≡ Some i → step program context relay s ≡ Next t
    → new ≡ ((old ++ before_told s.unit s.registers i) ++ after_told t.unit t.registers i) ++ codes "\n"
    → old ++ told_at program context relay rest words s ≡ new ++ rest words t
told_next program context relay rest words s t i old new here steps is =
    ap (λ (l : List ℕ). old ++ l) (told_by program context relay rest words s i (Next t) here steps)
    ∙ regroup_next old (before_told s.unit s.registers i) (after_told t.unit t.registers i) (codes "\n") (rest words t) new is

pub told_asks : (program : List Insn) (context : List ℕ) (relay : Relay) (rest : Rest) (words left : List ℕ) (s t u : State) (i : Insn) (request : Request) (old mid new : List ℕ)
    → instruction_at program s.unit ≡ Some i → step program context relay s ≡ Ask request t
    → u ≡ resumed request (reply words request) t → left ≡ next words request
    → mid ≡ old ++ before_told s.unit s.registers i
    → new ≡ ((mid ++ after_told u.unit u.registers i) ++ request_told request words left) ++ codes "\n"
    → old ++ told_at program context relay rest words s ≡ new ++ rest left u
told_asks program context relay rest words left s t u i request old mid new here steps resumes leaves begun is =
    ap (λ (l : List ℕ). old ++ l) (told_by program context relay rest words s i (Ask request t) here steps)
    ∙ (ap (λ (v : State). old ++ (before_told s.unit s.registers i ++ (after_told v.unit v.registers i ++ (request_told request words (next words request) ++ (codes "\n" ++ rest (next words request) v))))) (sym resumes)
    ∙ (ap (λ (w : List ℕ). old ++ (before_told s.unit s.registers i ++ (after_told u.unit u.registers i ++ (request_told request words w ++ (codes "\n" ++ rest w u))))) (sym leaves)
    ∙ regroup_asks old (before_told s.unit s.registers i) (after_told u.unit u.registers i) (request_told request words left) (codes "\n") (rest left u) mid new begun is))

pub told_exit : (program : List Insn) (context : List ℕ) (relay : Relay) (rest : Rest) (words : List ℕ) (s t : State) (i : Insn) (r0 : ℕ) (old new : List ℕ)
    → instruction_at program s.unit ≡ Some i → step program context relay s ≡ Exit r0 t
    → new ≡ (old ++ before_told s.unit s.registers i) ++ codes "\n" → old ++ told_at program context relay rest words s ≡ new
told_exit program context relay rest words s t i r0 old new here steps is =
    ap (λ (l : List ℕ). old ++ l) (told_by program context relay rest words s i (Exit r0 t) here steps) ∙ (sym (append_assoc old (before_told s.unit s.registers i) (codes "\n")) ∙ sym is)

-- ---- the whole run

-- States which lines the further run adds, from the program's state and the board's words.
pub record IsTold (opening : List ℕ) (program : List Insn) (context : List ℕ) (relay : Relay) (a : Standing) (b : RecordedBoard) (text : List ℕ) : Type 0 where
  pub of_run : IsOfRun program context a
  pub relay_kept : a.relay ≡ relay
  pub rest : text ++ lines_from program context relay (length program - a.state.steps) b.words a.state ≡ trace_on opening program context relay

pub told_from : (opening : List ℕ) (program : List Insn) (context : List ℕ) (relay : Relay) (a : Standing) (b : RecordedBoard) → IsOfRun program context a → a.relay ≡ relay →
    b.words ≡ opening → a.state ≡ entry (empty_outbox a.relay) → IsTold opening program context relay a b []
told_from opening program context relay a b run same opened begun =
    let at : a.state ≡ entry (empty_outbox relay) = begun ∙ ap (λ (r : Relay). entry (empty_outbox r)) same in
    record {
      of_run = run;
      relay_kept = same;
      rest = (let all : length program - 0 ≡ length program = omega arith in rw (at, opened) (ap (λ (k : ℕ). lines_from program context relay k opening (entry (empty_outbox relay))) all));
    }

lines_suc : (program : List Insn) (context : List ℕ) (relay : Relay) (k : ℕ) (words : List ℕ) (s : State)
    → lines_from program context relay (suc k) words s ≡ told_at program context relay (λ left t. lines_from program context relay k left t) words s
unfolding lines_from
lines_suc program context relay k words s = refl

-- Proves that the lines of k + 1 steps are the line of this step and those of k further steps.
left_over : (opening : List ℕ) (program : List Insn) (context : List ℕ) (relay : Relay) (k : ℕ) (a : Standing) (b : RecordedBoard) (text : List ℕ) → IsTold opening program context relay a b text
    → length program - a.state.steps ≡ suc k → text ++ told_at program context a.relay (λ left t. lines_from program context relay k left t) b.words a.state ≡ trace_on opening program context relay
left_over opening program context relay k a b text h is =
    ap (λ (r : Relay). text ++ told_at program context r (λ left t. lines_from program context relay k left t) b.words a.state) h.relay_kept
    ∙ (ap (λ (l : List ℕ). text ++ l) (sym (lines_suc program context relay k b.words a.state))
    ∙ (ap (λ (n : ℕ). text ++ lines_from program context relay n b.words a.state) (sym is) ∙ h.rest))

pub told_on : (opening : List ℕ) (program : List Insn) (context : List ℕ) (relay : Relay) (a t : Standing) (b d : RecordedBoard) (text longer : List ℕ) → IsSound program → IsTold opening program context relay a b text
    → IsOfRun program context t → t.relay ≡ a.relay → t.state.steps ≡ a.state.steps + 1
    → ((rest : Rest) → text ++ told_at program context a.relay rest b.words a.state ≡ longer ++ rest d.words t.state) → IsTold opening program context relay t d longer
told_on opening program context relay a t b d text longer sound h run same counted tells =
    let few : a.state.steps < length program = fewer program context a sound h.of_run in
    let left : length program - a.state.steps ≡ suc (length program - t.state.steps) = omega arith in
    record {
      of_run = run;
      relay_kept = same ∙ h.relay_kept;
      rest = sym (tells (λ words s. lines_from program context relay (length program - t.state.steps) words s)) ∙ left_over opening program context relay (length program - t.state.steps) a b text h left;
    }

pub told_end : (opening : List ℕ) (program : List Insn) (context : List ℕ) (relay : Relay) (a : Standing) (b : RecordedBoard) (text longer : List ℕ) → IsSound program → IsTold opening program context relay a b text
    → ((rest : Rest) → text ++ told_at program context a.relay rest b.words a.state ≡ longer) → longer ≡ trace_on opening program context relay
told_end opening program context relay a b text longer sound h tells =
    let few : a.state.steps < length program = fewer program context a sound h.of_run in
    let left : length program - a.state.steps ≡ suc (length program - a.state.steps - 1) = omega arith in
    sym (tells (λ words s. lines_from program context relay (length program - a.state.steps - 1) words s)) ∙ left_over opening program context relay (length program - a.state.steps - 1) a b text h left

pub steps_left : (program : List Insn) (context : List ℕ) (a t : Standing) → IsSound program → IsOfRun program context a → t.state.steps ≡ a.state.steps + 1
    → length program - t.state.steps < length program - a.state.steps
steps_left program context a t sound run counted = let few : a.state.steps < length program = fewer program context a sound run in omega arith
