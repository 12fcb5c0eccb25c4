-- The trace from a state on describes the run from that state.
use Rattle.std.proofs.Common.{◌≡◌, ◌∙◌, ℕ, zero, suc, ◌+◌, List, [], ◌∷◌, ◌++◌, length, refl, sym, ap, subst, append_assoc, append-nil, arith, flat_map}
use Rattle.std.specs.Prelude.{Some, codes, decimal}
use Rattle.std.specs.Fmt.{digits}
use Rattle.insn.specs.declared.insn.Insn.{Insn}
use Rattle.insn.specs.declared.insn.Insn.TheVariants as i
use Rattle.insn.specs.Program.{instruction_at}
use Rattle.semantics.specs.Relay.{Relay}
use Rattle.semantics.specs.declared.request.Request.{Request}
use Rattle.semantics.specs.declared.value.Value.{Value}
use Rattle.semantics.specs.declared.value.Value.TheVariants.{Number}
use Rattle.semantics.specs.State.{State, Outcome, Next, Ask, Exit, Trap, entry, value_at}
use Rattle.semantics.specs.Outbox.{empty_outbox}
use Rattle.semantics.specs.Call.{resumed}
use Rattle.semantics.specs.Execution.{step}
use Rattle.semantics.specs.Whole.{CountsOnce}
use Rattle.semantics.proofs.StepLaws.{step_counts, resumed_counts}
use Rattle.asm.specs.Printing.{insn_text, register_text}
use Rattle.board.specs.Board.{reply, next}
use Rattle.trial.specs.Trial.{Ending, served, ending, trial_on}
use Rattle.trial.specs.StepLines.{before_told, after_told, request_told}
use Rattle.trial.specs.Values.{value_text}
use Rattle.trial.specs.Trace.{lines_from, told_at, trace_on}
use Rattle.trial.specs.TraceLaws.{AreLinesOf, IsRun, IsTraceOf, LeadsTo}
use Rattle.trial.proofs.ExitLemmas.{stands}
use Rattle.trial.proofs.StepLemmas.{told_by}

-- States the law for the run from a state on.
record Traces (program : List Insn) (context : List ℕ) (relay : Relay) (words : List ℕ) (s : State) (e : Ending) (text : List ℕ) : Type 0 where
  later : List State
  run : IsRun program context relay words s later e
  lines : List (List ℕ)
  each : AreLinesOf program e.r0 s later lines
  counted : s.steps + length lines ≡ e.state.steps
  whole : text ≡ flat_map (λ line. line ++ codes "\n") lines

-- ---- the texts

regroup : (text b a n r more : List ℕ) → text ≡ b ++ (a ++ (n ++ r)) → r ≡ more → text ≡ ((b ++ a) ++ n) ++ more
regroup text b a n r more is same =
    let grouped : ((b ++ a) ++ n) ++ r ≡ b ++ (a ++ (n ++ r)) = simp append_assoc in
    is ∙ (sym grouped ∙ ap (λ (l : List ℕ). ((b ++ a) ++ n) ++ l) same)

regroup_asked : (text b a q n r more : List ℕ) → text ≡ b ++ (a ++ (q ++ (n ++ r))) → r ≡ more → text ≡ ((b ++ (a ++ q)) ++ n) ++ more
regroup_asked text b a q n r more is same =
    let grouped : ((b ++ (a ++ q)) ++ n) ++ r ≡ b ++ (a ++ (q ++ (n ++ r))) = simp append_assoc in
    is ∙ (sym grouped ∙ ap (λ (l : List ℕ). ((b ++ (a ++ q)) ++ n) ++ l) same)

literal : (x : List ℕ) → codes " " ++ (codes "exit" ++ (codes " ; " ++ (codes "r0" ++ (codes " " ++ x)))) ≡ codes " exit ; r0 " ++ x
literal x = refl

exit_words : (u e r x : List ℕ) → e ≡ codes "exit" → r ≡ codes "r0"
    → ((u ++ codes " ") ++ e) ++ ((((codes " ; " ++ ((r ++ codes " ") ++ x)) ++ []) ++ [])) ++ [] ≡ (u ++ codes " exit ; r0 ") ++ x
exit_words u e r x ends first =
    let flat : ((u ++ codes " ") ++ e) ++ ((((codes " ; " ++ ((r ++ codes " ") ++ x)) ++ []) ++ [])) ++ []
    ≡ u ++ (codes " " ++ (e ++ (codes " ; " ++ (r ++ (codes " " ++ x))))) = simp (append_assoc, append-nil) in
    let named : u ++ (codes " " ++ (e ++ (codes " ; " ++ (r ++ (codes " " ++ x))))) ≡ u ++ (codes " " ++ (codes "exit" ++ (codes " ; " ++ (codes "r0" ++ (codes " " ++ x))))) = rw (ends, first) refl in
    flat ∙ (named ∙ (ap (λ (l : List ℕ). u ++ l) (literal x) ∙ sym (append_assoc u (codes " exit ; r0 ") x)))

exit_text : insn_text i.Exit ≡ codes "exit"
unfolding insn_text
exit_text = refl

zero_text : register_text 0 ≡ codes "r0"
unfolding digits
zero_text = refl

exit_line : (s : State) (n : ℕ) → value_at s.registers 0 ≡ Number n → before_told s.unit s.registers i.Exit ≡ decimal s.unit ++ codes " exit ; r0 " ++ decimal n
exit_line s n held =
    exit_words (decimal s.unit) (insn_text i.Exit) (register_text 0) (value_text (value_at s.registers 0)) exit_text zero_text
    ∙ ap (λ (v : Value). (decimal s.unit ++ codes " exit ; r0 ") ++ value_text v) held

-- ---- one step more

module _ (program : List Insn) (context : List ℕ) (relay : Relay) where
  lines_suc : (k : ℕ) (words : List ℕ) (s : State)
      → lines_from program context relay (suc k) words s ≡ told_at program context relay (λ left t. lines_from program context relay k left t) words s
  unfolding lines_from
  lines_suc k words s = refl

  traces_next : (k : ℕ) (words : List ℕ) (s t : State) (e : Ending) → step program context relay s ≡ Next t
      → Traces program context relay words t e (lines_from program context relay k words t) → Traces program context relay words s e (lines_from program context relay (suc k) words s)
  traces_next k words s t e is w =
      let st : (insn : Insn) × (instruction_at program s.unit ≡ Some insn) = stands program context relay s (Next t) is in
      let insn = st.0 in
      let here = st.1 in
      let one : t.steps ≡ s.steps + 1 = subst (λ (o : Outcome). CountsOnce s o) is (step_counts program context relay s) in
      let more : t.steps + length w.lines ≡ e.state.steps = w.counted in
      let before = before_told s.unit s.registers insn in
      let behind = after_told t.unit t.registers insn in
      record {
        later = t ∷ w.later;
        run = (words, subst (λ (o : Outcome). LeadsTo words words t o) (sym is) (refl, refl), w.run);
        lines = (before ++ behind) ∷ w.lines;
        each = (record { insn = insn; stands = here; behind = behind; split = refl }, w.each);
        counted = omega arith;
        whole = regroup _ before behind (codes "\n") (lines_from program context relay k words t) _
            (lines_suc k words s ∙ told_by program context relay (λ left u. lines_from program context relay k left u) words s insn (Next t) here is) w.whole;
      }

  traces_asks : (k : ℕ) (words : List ℕ) (s t : State) (request : Request) (e : Ending) → step program context relay s ≡ Ask request t
      → Traces program context relay (next words request) (resumed request (reply words request) t) e (lines_from program context relay k (next words request) (resumed request (reply words request) t))
      → Traces program context relay words s e (lines_from program context relay (suc k) words s)
  traces_asks k words s t request e is w =
      let u : State = resumed request (reply words request) t in
      let st : (insn : Insn) × (instruction_at program s.unit ≡ Some insn) = stands program context relay s (Ask request t) is in
      let insn = st.0 in
      let here = st.1 in
      let one : t.steps ≡ s.steps + 1 = subst (λ (o : Outcome). CountsOnce s o) is (step_counts program context relay s) in
      let kept : u.steps ≡ t.steps = resumed_counts request (reply words request) t in
      let more : u.steps + length w.lines ≡ e.state.steps = w.counted in
      let before = before_told s.unit s.registers insn in
      let wrote = after_told u.unit u.registers insn in
      let asked = request_told request words (next words request) in
      record {
        later = u ∷ w.later;
        run = (next words request, subst (λ (o : Outcome). LeadsTo words (next words request) u o) (sym is) (refl, refl), w.run);
        lines = (before ++ (wrote ++ asked)) ∷ w.lines;
        each = (record { insn = insn; stands = here; behind = wrote ++ asked; split = refl }, w.each);
        counted = omega arith;
        whole = regroup_asked _ before wrote asked (codes "\n") (lines_from program context relay k (next words request) u) _
            (lines_suc k words s ∙ told_by program context relay (λ left v. lines_from program context relay k left v) words s insn (Ask request t) here is) w.whole;
      }

  traces_exit : (k : ℕ) (words : List ℕ) (s t : State) (r0 : ℕ) → step program context relay s ≡ Exit r0 t
      → Traces program context relay words s (record { r0 = r0; state = t; words = words }) (lines_from program context relay (suc k) words s)
  traces_exit k words s t r0 is =
      let st : (instruction_at program s.unit ≡ Some i.Exit) × (value_at s.registers 0 ≡ Number r0) = stands program context relay s (Exit r0 t) is in
      let here = st.0 in
      let held = st.1 in
      let one : t.steps ≡ s.steps + 1 = subst (λ (o : Outcome). CountsOnce s o) is (step_counts program context relay s) in
      record {
        later = [];
        run = (is, refl);
        lines = before_told s.unit s.registers i.Exit ∷ [];
        each = exit_line s r0 held;
        counted = sym one;
        whole = lines_suc k words s ∙ (told_by program context relay (λ left u. lines_from program context relay k left u) words s i.Exit (Exit r0 t) here is
            ∙ sym (append-nil (before_told s.unit s.registers i.Exit ++ codes "\n")));
      }

  traces : (k : ℕ) (words : List ℕ) (s : State) (e : Ending) → ending program context relay k words s ≡ Some e → Traces program context relay words s e (lines_from program context relay k words s)
  unfolding ending
  traces zero words s e is = absurd (let h = is in cc)
  traces (suc k) words s e is = by (λ left t rest. traces k left t e rest) (step program context relay s) refl is
    where
      by : ((left : List ℕ) (t : State) → ending program context relay k left t ≡ Some e → Traces program context relay left t e (lines_from program context relay k left t)) → (o : Outcome) → step program context relay s ≡ o
          → served (λ left t. ending program context relay k left t) words o ≡ Some e → Traces program context relay words s e (lines_from program context relay (suc k) words s)
      by ih (Next t) same rest = traces_next k words s t e same (ih words t rest)
      by ih (Ask request t) same rest = traces_asks k words s t request e same (ih (next words request) (resumed request (reply words request) t) rest)
      by ih (Exit r0 t) same rest =
          subst (λ (f : Ending). Traces program context relay words s f (lines_from program context relay (suc k) words s)) (let h = rest in cc) (traces_exit k words s t r0 same)
      by ih (Trap cause) same rest = absurd (let h = rest in cc)

pub trace_is_trial : (words : List ℕ) (program : List Insn) (context : List ℕ) (relay : Relay) (e : Ending) → trial_on words program context relay ≡ Some e
    → IsTraceOf words program context relay e (trace_on words program context relay)
trace_is_trial words program context relay e is =
    let w = traces program context relay (length program) words (entry (empty_outbox relay)) e is in
    record { later = w.later; run = w.run; lines = w.lines; each = w.each; counted = (let c : 0 + length w.lines ≡ e.state.steps = w.counted in omega arith); whole = w.whole }
