-- Steps that are slips (calls that should send orders, but have no effect), and the slips of a whole run.
use Rattle.std.proofs.Common.{◌≡◌, ◌∙◌, ℕ, zero, suc, ◌+◌, ◌-◌, ◌<◌, ◌≤◌, List, [], ◌∷◌, ◌++◌, length, Bool, true, false, not, refl, sym, ap, subst, append_assoc, append-nil, arith}
use Rattle.std.proofs.lemmas.Bool.{ne_eqb}
use Rattle.std.specs.Prelude.{Option, Some, None, Result, Ok, Err, if◌then◌else◌, ◌==◌, ◌&&◌, nat_lt, ◌^◌}
use Rattle.std.specs.List.{list_all}
use Rattle.insn.specs.declared.insn.Insn.{Insn}
use Rattle.insn.specs.declared.insn.Insn.TheVariants as i
use Rattle.insn.specs.Program.{instruction_at}
use Rattle.semantics.specs.Relay.{Relay}
use Rattle.semantics.specs.declared.entry.Entry.{Entry}
use Rattle.semantics.specs.declared.request.Helper.{Helper}
use Rattle.semantics.specs.declared.request.Helper.TheVariants as h
use Rattle.semantics.specs.declared.request.Request.{Request}
use Rattle.semantics.specs.Entries.{is_entered}
use Rattle.semantics.specs.State.{Cause, State, Outcome, Next, Ask, Exit, Trap, entry}
use Rattle.semantics.specs.Outbox.{Choice, empty_outbox, places_set}
use Rattle.semantics.specs.Call.{Told, Puts, Enters, attempted, called, fits, helper_of, honest_in, pass_in, resumed, send_in, send_row_in, sent, sign_in, sway_in, told, words_of, WhetherNone, HowMany}
use Rattle.semantics.specs.Execution.{executed, fetched, step}
use Rattle.semantics.proofs.StepLaws.{resumed_counts}
use Rattle.board.specs.Board.{Access}
use Rattle.machine.specs.Standing.{Standing}
use Rattle.machine.specs.Advance.{IsOfRun}
use Rattle.trial.specs.Noted.{call_said, says_none}
use Rattle.trial.specs.Noting.{EndsRun, HasAsked, HasEnded, HasGone, slip_next}
use Rattle.trial.specs.Slips.{Answering, Rest, answered, by_replies, call_at, call_by, followed, is_slip, number_at, slip, slip_at, slips_at, slips_from}
use Rattle.trial.specs.declared.helper_call.HelperCall.{HelperCall}

-- ---- r0 says whether a call is a slip

-- States what the outcome of a step means for its slip.
abbrev Says : Option HelperCall → List HelperCall → Outcome → Type 0
Says call calls (Next t) = calls ≡ call_said (number_at t 0) call
Says call calls (Ask request t) = calls ≡ []
Says call calls (Exit r0 t) = calls ≡ []
Says call calls (Trap cause) = Unit {0}

abbrev made : State → Helper → HelperCall
made s helper = record { unit = s.unit; helper = helper; first = number_at s 1; second = number_at s 2; third = number_at s 3 }

-- Proves that a step that is not a call of a helper that sends orders is no slip.
quiet : (call : Option HelperCall) → ((r0 : ℕ) → call_said r0 call ≡ []) → (o : Outcome) → Says call [] o
quiet call none (Next t) = sym (none (number_at t 0))
quiet call none (Ask request t) = refl
quiet call none (Exit r0 t) = refl
quiet call none (Trap cause) = tt

one_less : (n : ℕ) → (n == 0) ≡ ((1 - n) == 1)
one_less zero = refl
one_less (suc n) = let none : 1 - suc n ≡ 0 = omega arith in ne_eqb (suc n) 0 (λ (e : suc n ≡ 0). let no : ⊥ = omega arith in no) ∙ ap (λ (m : ℕ). m == 1) (sym none)

sent_says : (r : Relay) (s : State) (tells : Told) (call : HelperCall) → ((n : ℕ) → (n == 0) ≡ says_none call.helper (told tells n)) → (chosen : Result Choice Cause)
    → Says (Some call) (if is_slip r s (Puts tells chosen) then call ∷ [] else []) (sent r s (told tells) chosen)
sent_says r s tells call same (Err cause) = tt
sent_says r s tells call same (Ok choice) = ap (λ (b : Bool). if b then call ∷ [] else []) (same (places_set r choice))

refused_by_one : (b : Bool) → not b ≡ ((if b then 0 else 1) == 1)
refused_by_one true = refl
refused_by_one false = refl

attempted_says : (r : Relay) (s : State) (call : HelperCall) → ((n : ℕ) → says_none call.helper n ≡ (n == 1)) → (tried : Result Entry Cause)
    → Says (Some call) (if is_slip r s (Enters tried) then call ∷ [] else []) (attempted r s tried)
attempted_says r s call same (Err cause) = tt
attempted_says r s call same (Ok entry) =
    let b = is_entered r s.entries entry in
    ap (λ (x : Bool). if x then call ∷ [] else []) (refused_by_one b ∙ sym (same (if b then 0 else 1)))

called_says : (context : List ℕ) (r : Relay) (s : State) (helper : Option Helper) → Says (call_by s helper) (slip context r s (call_by s helper)) (called context r s helper)
called_says context r s None = tt
called_says context r s (Some h.Send) = sent_says r s WhetherNone (made s h.Send) one_less (send_in s)
called_says context r s (Some h.SendRow) = sent_says r s HowMany (made s h.SendRow) (λ n. refl) (send_row_in context s)
called_says context r s (Some h.Sway) = sent_says r s HowMany (made s h.Sway) (λ n. refl) (sway_in s)
called_says context r s (Some h.Honest) = sent_says r s HowMany (made s h.Honest) (λ n. refl) (honest_in context s)
called_says context r s (Some h.SignOrder) = attempted_says r s (made s h.SignOrder) (λ n. refl) (sign_in s)
called_says context r s (Some h.PassOn) = attempted_says r s (made s h.PassOn) (λ n. refl) (pass_in s)
called_says context r s (Some helper) = quiet (call_by s (Some helper)) (λ r0. refl) (called context r s (Some helper))

executed_says : (context : List ℕ) (r : Relay) (insn : Insn) (s : State) → Says (call_at s insn) (slip context r s (call_at s insn)) (executed context r insn s)
executed_says context r (i.Call number) s = called_says context r s (helper_of number)
executed_says context r insn s = quiet None (λ r0. refl) (executed context r insn s)

step_says : (program : List Insn) (context : List ℕ) (r : Relay) (s : State) (insn : Insn) (o : Outcome) → instruction_at program s.unit ≡ Some insn → step program context r s ≡ o
    → Says (call_at s insn) (slip_at context r s (instruction_at program s.unit)) o
unfolding step
step_says program context r s insn o here is =
    let led : executed context r insn s ≡ o = sym (ap (λ (found : Option Insn). fetched context r found s) here) ∙ is in
    subst (λ (x : Outcome). Says (call_at s insn) (slip_at context r s (instruction_at program s.unit)) x) led
    (subst (λ (found : Option Insn). Says (call_at s insn) (slip_at context r s found) (executed context r insn s)) (sym here) (executed_says context r insn s))

-- ---- one step

-- Proves that no instruction was found at the unit.
pub none_here : (program own : List Insn) (unit at : ℕ) → None ≡ instruction_at own at → own ≡ program → at ≡ unit → instruction_at program unit ≡ None
none_here program own unit at none same is =
    sym (none ∙ (ap (λ (p : List Insn). instruction_at p at) same ∙ ap (λ (u : ℕ). instruction_at program u) is))

-- Proves that the run ends where there is no instruction.
pub ended_nowhere : (program : List Insn) (context : List ℕ) (a : Standing) (calls : List HelperCall) → instruction_at program a.state.unit ≡ None → HasEnded program context a calls calls
unfolding step
ended_nowhere program context a calls none = record {
  ends = subst (λ (found : Option Insn). EndsRun (fetched context a.relay found a.state)) (sym none) tt;
  noted = refl;
  none = ap (λ (found : Option Insn). slip_at context a.relay a.state found) none;
}

pub ended_by_exit : (program : List Insn) (context : List ℕ) (a : Standing) (insn : Insn) (r0 : ℕ) (t : State) (calls : List HelperCall) → instruction_at program a.state.unit ≡ Some insn
    → step program context a.relay a.state ≡ Exit r0 t → HasEnded program context a calls calls
ended_by_exit program context a insn r0 t calls here is = record {
  ends = subst EndsRun (sym is) tt;
  noted = refl;
  none = step_says program context a.relay a.state insn (Exit r0 t) here is;
}

-- Proves that a request is no slip.
pub no_slip : (program : List Insn) (context : List ℕ) (a : Standing) (insn : Insn) (request : Request) (t : State) → instruction_at program a.state.unit ≡ Some insn
    → step program context a.relay a.state ≡ Ask request t → slip_next program context a ≡ []
no_slip program context a insn request t here is = step_says program context a.relay a.state insn (Ask request t) here is

-- Proves that the slip of a step is what r0 says.
pub slip_said : (program : List Insn) (context : List ℕ) (a : Standing) (insn : Insn) (t : State) → instruction_at program a.state.unit ≡ Some insn
    → step program context a.relay a.state ≡ Next t → slip_next program context a ≡ call_said (number_at t 0) (call_at a.state insn)
slip_said program context a insn t here is = step_says program context a.relay a.state insn (Next t) here is

-- ---- the whole run

-- States which slips the further run adds, at most up to this number of steps, to make the whole list.
pub record IsSlipped {B : Type 0} (answering : Answering B) (program : List Insn) (context : List ℕ) (relay : Relay) (steps : ℕ) (whole : List HelperCall) (a : Standing) (b : B) (calls : List HelperCall) : Type 0 where
  pub of_run : IsOfRun program context a
  pub relay_kept : a.relay ≡ relay
  pub rest : calls ++ slips_from answering program context relay (steps - a.state.steps) b a.state ≡ whole

pub slipped_from : {B : Type 0} (answering : Answering B) (program : List Insn) (context : List ℕ) (relay : Relay) (steps : ℕ) (a : Standing) (b : B) → IsOfRun program context a → a.relay ≡ relay
    → a.state ≡ entry (empty_outbox relay) → IsSlipped answering program context relay steps (slips_from answering program context relay steps b (entry (empty_outbox relay))) a b []
slipped_from answering program context relay steps a b run same at = record {
  of_run = run;
  relay_kept = same;
  rest = (let all : steps - 0 ≡ steps = omega arith in rw at (ap (λ (k : ℕ). slips_from answering program context relay k b (entry (empty_outbox relay))) all));
}

slips_suc : {B : Type 0} (answering : Answering B) (program : List Insn) (context : List ℕ) (relay : Relay) (k : ℕ) (b : B) (s : State)
    → slips_from answering program context relay (suc k) b s ≡ slips_at answering program context relay (λ c t. slips_from answering program context relay k c t) b s
unfolding slips_from
slips_suc answering program context relay k b s = refl

slips_zero : {B : Type 0} (answering : Answering B) (program : List Insn) (context : List ℕ) (relay : Relay) (b : B) (s : State) → slips_from answering program context relay 0 b s ≡ []
unfolding slips_from
slips_zero answering program context relay b s = refl

-- Proves that the slips of k + 1 steps are the slip of this step and those of k further steps.
left_over : {B : Type 0} (answering : Answering B) (program : List Insn) (context : List ℕ) (relay : Relay) (steps k : ℕ) (whole : List HelperCall) (a : Standing) (b : B) (calls : List HelperCall)
    → IsSlipped answering program context relay steps whole a b calls → steps - a.state.steps ≡ suc k
    → calls ++ slips_at answering program context a.relay (λ c t. slips_from answering program context relay k c t) b a.state ≡ whole
left_over answering program context relay steps k whole a b calls h is =
    ap (λ (r : Relay). calls ++ slips_at answering program context r (λ c t. slips_from answering program context relay k c t) b a.state) h.relay_kept
    ∙ (ap (λ (l : List HelperCall). calls ++ l) (sym (slips_suc answering program context relay k b a.state))
    ∙ (ap (λ (n : ℕ). calls ++ slips_from answering program context relay n b a.state) (sym is) ∙ h.rest))

pub slipped_went : {B : Type 0} (answering : Answering B) (program : List Insn) (context : List ℕ) (relay : Relay) (steps : ℕ) (whole : List HelperCall) (a t : Standing) (b : B) (calls longer : List HelperCall)
    → a.state.steps < steps → IsSlipped answering program context relay steps whole a b calls → HasGone program context a t calls longer → t.relay ≡ a.relay
    → IsSlipped answering program context relay steps whole t b longer
slipped_went {B = B} answering program context relay steps whole a t b calls longer few h gone same =
    let counted = gone.counted in
    let left : steps - a.state.steps ≡ suc (steps - t.state.steps) = omega arith in
    let rest : Rest B = λ c u. slips_from answering program context relay (steps - t.state.steps) c u in
    record {
      of_run = gone.of_run;
      relay_kept = same ∙ h.relay_kept;
      rest = ap (λ (l : List HelperCall). l ++ rest b t.state) gone.noted
          ∙ (append_assoc calls (slip_next program context a) (rest b t.state)
          ∙ (ap (λ (o : Outcome). calls ++ (slip_next program context a ++ followed answering rest b o)) (sym gone.outcome)
          ∙ left_over answering program context relay steps (steps - t.state.steps) whole a b calls h left));
    }

-- Proves what follows a request, by what answers it.
asked_rest : {B : Type 0} (answering : Answering B) (program : List Insn) (context : List ℕ) (rest : Rest B) (a : Standing) (m : Standing) (b : B) (request : Request) (found : Option (List ℕ × B)) (calls same : List HelperCall)
    → HasAsked program context request a m calls same → answering b request ≡ found
    → calls ++ slips_at answering program context a.relay rest b a.state ≡ same ++ answered rest request m.state found
asked_rest {B = B} answering program context rest a m b request found calls same asked is =
    ap (λ (o : Outcome). calls ++ (slip_next program context a ++ followed answering rest b o)) asked.outcome
    ∙ (ap (λ (l : List HelperCall). calls ++ (l ++ answered rest request m.state (answering b request))) asked.none
    ∙ (ap (λ (f : Option (List ℕ × B)). calls ++ answered rest request m.state f) is
    ∙ ap (λ (l : List HelperCall). l ++ answered rest request m.state found) (sym asked.noted)))

pub slipped_asked : {B : Type 0} (answering : Answering B) (program : List Insn) (context : List ℕ) (relay : Relay) (steps : ℕ) (whole : List HelperCall) (a m t : Standing) (b d : B) (request : Request) (answer : List ℕ)
    (calls same : List HelperCall) → a.state.steps < steps → IsSlipped answering program context relay steps whole a b calls → HasAsked program context request a m calls same → m.relay ≡ a.relay
    → answering b request ≡ Some (answer, d) → t.relay ≡ m.relay → t.state ≡ resumed request answer m.state → IsOfRun program context t
    → IsSlipped answering program context relay steps whole t d same
slipped_asked {B = B} answering program context relay steps whole a m t b d request answer calls same few h asked kept answers held resumes run =
    let counted = asked.counted in
    let unchanged : t.state.steps ≡ m.state.steps = ap (λ (s : State). s.steps) resumes ∙ resumed_counts request answer m.state in
    let left : steps - a.state.steps ≡ suc (steps - t.state.steps) = omega arith in
    let rest : Rest B = λ c u. slips_from answering program context relay (steps - t.state.steps) c u in
    record {
      of_run = run;
      relay_kept = held ∙ (kept ∙ h.relay_kept);
      rest = ap (λ (u : State). same ++ rest d u) resumes
          ∙ (sym (asked_rest answering program context rest a m b request (Some (answer, d)) calls same asked answers)
          ∙ left_over answering program context relay steps (steps - t.state.steps) whole a b calls h left);
    }

-- Proves that the list is whole if a request is not answered.
pub slipped_cut : {B : Type 0} (answering : Answering B) (program : List Insn) (context : List ℕ) (relay : Relay) (steps : ℕ) (whole : List HelperCall) (a m : Standing) (b : B) (request : Request)
    (calls same : List HelperCall) → a.state.steps < steps → IsSlipped answering program context relay steps whole a b calls → HasAsked program context request a m calls same
    → answering b request ≡ None → same ≡ whole
slipped_cut {B = B} answering program context relay steps whole a m b request calls same few h asked unanswered =
    let k = steps - a.state.steps - 1 in
    let left : steps - a.state.steps ≡ suc k = omega arith in
    let rest : Rest B = λ c u. slips_from answering program context relay k c u in
    sym (append-nil same)
    ∙ (sym (asked_rest answering program context rest a m b request None calls same asked unanswered)
    ∙ left_over answering program context relay steps k whole a b calls h left)

ends_none : {B : Type 0} (answering : Answering B) (rest : Rest B) (b : B) (o : Outcome) → EndsRun o → followed answering rest b o ≡ []
ends_none answering rest b (Next t) ends = elim ends [ ]
ends_none answering rest b (Ask request t) ends = elim ends [ ]
ends_none answering rest b (Exit r0 t) ends = refl
ends_none answering rest b (Trap cause) ends = refl

-- Proves that the list is whole when the run ends.
pub slipped_end : {B : Type 0} (answering : Answering B) (program : List Insn) (context : List ℕ) (relay : Relay) (steps : ℕ) (whole : List HelperCall) (a : Standing) (b : B)
    (calls same : List HelperCall) → a.state.steps < steps → IsSlipped answering program context relay steps whole a b calls → HasEnded program context a calls same → same ≡ whole
slipped_end {B = B} answering program context relay steps whole a b calls same few h ended =
    let k = steps - a.state.steps - 1 in
    let left : steps - a.state.steps ≡ suc k = omega arith in
    let rest : Rest B = λ c u. slips_from answering program context relay k c u in
    ended.noted
    ∙ (sym (append-nil calls)
    ∙ (ap (λ (l : List HelperCall). calls ++ l) (sym (ends_none answering rest b (step program context a.relay a.state) ended.ends))
    ∙ (ap (λ (l : List HelperCall). calls ++ (l ++ followed answering rest b (step program context a.relay a.state))) (sym ended.none)
    ∙ left_over answering program context relay steps k whole a b calls h left)))

-- Proves that the list is whole after all steps.
pub slipped_over : {B : Type 0} (answering : Answering B) (program : List Insn) (context : List ℕ) (relay : Relay) (steps : ℕ) (whole : List HelperCall) (a : Standing) (b : B) (calls : List HelperCall)
    → steps ≤ a.state.steps → IsSlipped answering program context relay steps whole a b calls → calls ≡ whole
slipped_over answering program context relay steps whole a b calls past h =
    let over : steps - a.state.steps ≡ 0 = omega arith in
    sym (append-nil calls)
    ∙ (ap (λ (l : List HelperCall). calls ++ l) (sym (slips_zero answering program context relay b a.state))
    ∙ (ap (λ (n : ℕ). calls ++ slips_from answering program context relay n b a.state) (sym over) ∙ h.rest))

-- ---- replies of a letter

-- Proves that the first reply answers a request if it has the right length, and otherwise none does.
pub replies_answer : (access : Access) (rest : List Access) (request : Request) → (length access.reply == words_of request) ≡ true → by_replies (access ∷ rest) request ≡ Some (access.reply, rest)
replies_answer access rest request is = ap (λ (b : Bool). if b then Some (access.reply, rest) else None) is

pub replies_none : (access : Access) (rest : List Access) (request : Request) → (length access.reply == words_of request) ≡ false → by_replies (access ∷ rest) request ≡ None
replies_none access rest request is = ap (λ (b : Bool). if b then Some (access.reply, rest) else None) is

both_true : (a b : Bool) → (a && b) ≡ true → b ≡ true
both_true true b e = e
both_true false b e = absurd (let h = e in cc)

-- Proves that a reply that fitted one request fits another of the same length.
pub fits_too : (old request : Request) (words : List ℕ) → fits old words ≡ true → (length words == words_of request) ≡ true → fits request words ≡ true
fits_too old request words fitted long =
    let bounded = both_true (length words == words_of old) (list_all (λ word. nat_lt word (2 ^ 64)) words) fitted in
    ap (λ (b : Bool). b && list_all (λ word. nat_lt word (2 ^ 64)) words) long ∙ bounded
