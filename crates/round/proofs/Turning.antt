-- One step of the machine is one turn.
use Rattle.std.proofs.Common.{◌≡◌, ℕ, zero, suc, ◌+◌, ◌<◌, ◌≤◌, List, [], Bool, true, false, cond, Some, None, Option, refl, sym, ap, subst, ◌∙◌, arith, ◌||◌}
use Rattle.std.proofs.lemmas.Bool.{leb-false, or_parts}
use Rattle.insn.specs.declared.insn.Insn.{Insn}
use Rattle.semantics.specs.Relay.{Relay}
use Rattle.semantics.specs.declared.request.Request.{Request}
use Rattle.semantics.specs.State.{State, Outcome, Next, Ask, Exit, Trap}
use Rattle.semantics.specs.Execution.{step}
use Rattle.semantics.specs.Whole.{CountsOnce}
use Rattle.semantics.proofs.StepLaws.{step_counts}
use Rattle.machine.specs.Standing.{Standing, before}
use Rattle.machine.specs.declared.stop.StopReason.{StopReason}
use Rattle.machine.specs.declared.stop.StopReason.TheVariants.{Asked, Exited, Limit}
use Rattle.semantics.specs.Reached.{Reached}
use Rattle.machine.specs.Advance.{IsOfRun, Leads, Requests, Advances}
use Rattle.round.specs.Activation.{Activation, Turn, Goes, Asks, Ended, turned, turn, has_ended, is_reached}
use Rattle.round.specs.Runs.{Onward, Runs, IsWithin}
use Rattle.round.proofs.Patience.{runs_under}
use Rattle.round.specs.Running.{Stopped, IsBack, activation_of, Silently, Pauses, lesser}

-- The number of steps is counted.
pub leads_counts : (program : List Insn) (context : List ℕ) (relay : Relay) (n : ℕ) (s t : State) → Leads program context relay n s t → t.steps ≡ s.steps + n
leads_counts program context relay zero s t same = (let e = ap (λ (u : State). u.steps) same in omega arith)
leads_counts program context relay (suc n) s t (next, is, more) =
    let counted : next.steps ≡ s.steps + 1 = subst (λ (o : Outcome). CountsOnce s o) is (step_counts program context relay s) in
    let rest = leads_counts program context relay n next t more in
    omega arith

none_taken : (program : List Insn) (context : List ℕ) (relay : Relay) (n : ℕ) (s t : State) → Leads program context relay n s t → t.steps < s.steps + 1 → s ≡ t
none_taken program context relay zero s t leads few = leads
none_taken program context relay (suc n) s t leads few = absurd (let e = leads_counts program context relay (suc n) s t leads in omega arith)

one_taken : (program : List Insn) (context : List ℕ) (relay : Relay) (n : ℕ) (s t : State) → Leads program context relay n s t → s.steps + 1 ≤ t.steps → (0 < n → t.steps ≡ s.steps + 1) →
    step program context relay s ≡ Next t
one_taken program context relay zero s t leads past exactly = absurd (let e = leads_counts program context relay zero s t leads in omega arith)
one_taken program context relay (suc zero) s t (next, is, same) past exactly = is ∙ ap (λ (u : State). Next u) same
one_taken program context relay (suc (suc n)) s t leads past exactly =
    absurd (let e = leads_counts program context relay (suc (suc n)) s t leads in let f = exactly (omega arith) in omega arith)

-- The request is the one that the step makes. Withdrawing it restores the state before it.
asked_one : (program : List Insn) (context : List ℕ) (relay : Relay) (answers : List (List ℕ)) (s : State) (new : Standing) (r : Request) →
    Requests program context relay answers (s.steps + 1) s r new → s ≡ before new.state
asked_one program context relay answers s new r h = none_taken program context relay h.taken s (before new.state) h.leads (let most = h.early in let counted = h.counted in omega arith)

pub stopped : (program : List Insn) (context : List ℕ) (relay : Relay) (answers : List (List ℕ)) (s : State) (new : Standing) (result : StopReason) →
    Advances program context relay answers (s.steps + 1) s result new →
    Stopped (step program context relay s) result new.state × IsBack result s new.state
stopped program context relay answers s new (Asked r) h =
    let same = asked_one program context relay answers s new r h in
    let is : step program context relay s ≡ Ask r new.state = ap (λ (u : State). step program context relay u) same ∙ h.asks in
    (subst (λ (o : Outcome). Stopped o (Asked r) new.state) (sym is) (refl, refl), sym same)
stopped program context relay answers s new (Exited n) h =
    let same : s ≡ h.last = none_taken program context relay h.taken s h.last h.leads h.early in
    let is : step program context relay s ≡ Exit n new.state = ap (λ (u : State). step program context relay u) same ∙ h.exit in
    (subst (λ (o : Outcome). Stopped o (Exited n) new.state) (sym is) (refl, refl), tt)
stopped program context relay answers s new Limit h =
    (subst (λ (o : Outcome). Stopped o Limit new.state) (sym (one_taken program context relay h.taken s new.state h.leads h.past h.exactly)) refl, tt)

-- The same, as the code calls the machine.
pub stopped_with : (program : List Insn) (bytes context : List ℕ) (old new : Standing) (limit : ℕ) (result : StopReason) → context ≡ bytes → limit ≡ old.state.steps + 1 → IsOfRun program bytes old →
    ((answers : List (List ℕ)) → Reached program context old.relay answers old.state → Advances program context old.relay answers limit old.state result new) →
    Stopped (step program bytes old.relay old.state) result new.state × IsBack result old.state new.state
stopped_with program bytes context old new limit result same counted run advances =
    let reached : Reached program context old.relay run.answers old.state = subst (λ (l : List ℕ). Reached program l old.relay run.answers old.state) (sym same) run.reached in
    let a : Advances program context old.relay run.answers (old.state.steps + 1) old.state result new =
    subst (λ (n : ℕ). Advances program context old.relay run.answers n old.state result new) counted (advances run.answers reached) in
    subst (λ (l : List ℕ). Stopped (step program l old.relay old.state) result new.state × IsBack result old.state new.state) same
    (stopped program context old.relay run.answers old.state new result a)

-- A run of the machine without an access is a run of turns.
module _ (program : List Insn) (context : List ℕ) (relay : Relay) where
  leads_runs : (n : ℕ) (s t : State) → Leads program context relay n s t → Runs n (activation_of None program context (record { relay = relay; state = s }) false) [] (activation_of None program context (record { relay = relay; state = t }) false)
  leads_runs zero s t same = (refl, ap (λ (u : State). activation_of None program context (record { relay = relay; state = u }) false) same)
  leads_runs (suc n) s t (next, is, more) =
      subst (λ (o : Outcome). Onward (Runs n) (turned (activation_of None program context (record { relay = relay; state = s }) false) o) [] (activation_of None program context (record { relay = relay; state = t }) false)) (sym is) (leads_runs n next t more)

  leads_exits : (n : ℕ) (s last out : State) (r0 : ℕ) → Leads program context relay n s last → step program context relay last ≡ Exit r0 out →
      Runs (suc n) (activation_of None program context (record { relay = relay; state = s }) false) [] (activation_of None program context (record { relay = relay; state = out }) true)
  leads_exits zero s last out r0 same is =
      subst (λ (o : Outcome). Onward (Runs 0) (turned (activation_of None program context (record { relay = relay; state = s }) false) o) [] (activation_of None program context (record { relay = relay; state = out }) true))
      (sym (ap (λ (u : State). step program context relay u) same ∙ is)) (refl, refl)
  leads_exits (suc n) s last out r0 (next, goes, more) is =
      subst (λ (o : Outcome). Onward (Runs (suc n)) (turned (activation_of None program context (record { relay = relay; state = s }) false) o) [] (activation_of None program context (record { relay = relay; state = out }) true)) (sym goes)
      (leads_exits n next last out r0 more is)

  asks_pause : (limit : ℕ) (s asked : State) (r : Request) → step program context relay s ≡ Ask r asked →
      Pauses limit (activation_of None program context (record { relay = relay; state = s }) false) (turn (activation_of None program context (record { relay = relay; state = s }) false))
  asks_pause limit s asked r is = subst (λ (o : Outcome). Pauses limit (activation_of None program context (record { relay = relay; state = s }) false) (turned (activation_of None program context (record { relay = relay; state = s }) false) o)) (sym is) tt

  late_pause : (limit : ℕ) (a : Activation) (t : Turn) → limit ≤ a.state.steps → Pauses limit a t
  late_pause limit a (Goes b) le = le
  late_pause limit a (Asks q f) le = tt
  late_pause limit a Ended le = tt

-- Returns whether the program has exited.
abbrev pub IsOver : StopReason → Bool
IsOver (Asked r) = false
IsOver (Exited n) = true
IsOver Limit = false

-- Returns the state after a request, if there is one, is withdrawn.
abbrev pub Stood : StopReason → State → State
Stood (Asked r) s = before s
Stood (Exited n) s = s
Stood Limit s = s

pub ahead_by : (program : List Insn) (context : List ℕ) (relay : Relay) (answers : List (List ℕ)) (limit : ℕ) (s : State) (new : Standing) (result : StopReason) →
    Advances program context relay answers limit s result new →
    Silently (activation_of None program context (record { relay = relay; state = s }) false) (activation_of None program context (record { relay = relay; state = Stood result new.state }) (IsOver result))
    × Pauses limit (activation_of None program context (record { relay = relay; state = Stood result new.state }) (IsOver result)) (turn (activation_of None program context (record { relay = relay; state = Stood result new.state }) (IsOver result)))
ahead_by program context relay answers limit s new (Asked r) h =
    ((h.taken, leads_runs program context relay h.taken s (before new.state) h.leads), asks_pause program context relay limit (before new.state) new.state r h.asks)
ahead_by program context relay answers limit s new (Exited n) h =
    ((suc h.taken, leads_exits program context relay h.taken s h.last new.state n h.leads h.exit), tt)
ahead_by program context relay answers limit s new Limit h =
    ((h.taken, leads_runs program context relay h.taken s new.state h.leads), late_pause program context relay limit (activation_of None program context (record { relay = relay; state = new.state }) false) (turn (activation_of None program context (record { relay = relay; state = new.state }) false)) h.past)

-- The same, as the code calls the machine.
pub ahead_with : (program : List Insn) (bytes context : List ℕ) (old new : Standing) (limit : ℕ) (result : StopReason) → context ≡ bytes → IsOfRun program bytes old →
    ((answers : List (List ℕ)) → Reached program context old.relay answers old.state → Advances program context old.relay answers limit old.state result new) →
    (stood : Standing) → stood.relay ≡ old.relay → stood.state ≡ Stood result new.state →
    Silently (activation_of None program bytes old false) (activation_of None program bytes stood (IsOver result)) × Pauses limit (activation_of None program bytes stood (IsOver result)) (turn (activation_of None program bytes stood (IsOver result)))
ahead_with program bytes context old new limit result same run advances stood shape_is state_is =
    let reached : Reached program context old.relay run.answers old.state = subst (λ (l : List ℕ). Reached program l old.relay run.answers old.state) (sym same) run.reached in
    let done = ahead_by program context old.relay run.answers limit old.state new result (advances run.answers reached) in
    let A : List ℕ → Standing → Type 0 = λ l st. Silently (activation_of None program l old false) (activation_of None program l st (IsOver result)) × Pauses limit (activation_of None program l st (IsOver result)) (turn (activation_of None program l st (IsOver result))) in
    let there : record { relay = old.relay; state = Stood result new.state } ≡ stood = (λ i. record { relay = sym shape_is i; state = sym state_is i }) in
    subst (λ (l : List ℕ). A l stood) same (subst (λ (st : Standing). A context st) there done)

-- How many steps the activation has then taken.
pub taken_within : (program : List Insn) (context : List ℕ) (relay : Relay) (answers : List (List ℕ)) (limit m : ℕ) (s : State) (new : Standing) (result : StopReason) →
    Advances program context relay answers limit s result new → s.steps ≤ m → limit ≤ m → (Stood result new.state).steps ≤ m
taken_within program context relay answers limit m s new (Asked r) h few le = (let b = h.early in omega arith)
taken_within program context relay answers limit m s new (Exited n) h few le = (let b = h.early in let c = h.counted in omega arith)
taken_within program context relay answers limit m s new Limit h few le = by h.taken refl
  where
    by : (n : ℕ) → h.taken ≡ n → new.state.steps ≤ m
    by zero e = (let z = leads_counts program context relay h.taken s new.state h.leads in omega arith)
    by (suc n) e = (let z = h.exactly (omega arith) in omega arith)

not_yet : (p : Option ℕ) (limit n : ℕ) → is_reached p n ≡ false → lesser p limit ≤ n → limit ≤ n
not_yet None limit n free le = le
not_yet (Some p) limit n free le = (let l = leb-false p n free in omega arith)

-- With a patience the machine runs at most as far as this allows.
module _ (p : Option ℕ) (program : List Insn) (context : List ℕ) where
  pauses_by : (limit : ℕ) (stood : Standing) (o : Outcome) → is_reached p stood.state.steps ≡ false →
      Pauses (lesser p limit) (activation_of None program context stood false) (turned (activation_of None program context stood false) o) → Pauses limit (activation_of p program context stood false) (turned (activation_of p program context stood false) o)
  pauses_by limit stood (Next s) free h = not_yet p limit stood.state.steps free h
  pauses_by limit stood (Ask q s) free h = tt
  pauses_by limit stood (Exit r0 s) free h = not_yet p limit stood.state.steps free h
  pauses_by limit stood (Trap cause) free h = not_yet p limit stood.state.steps free h

  pub ahead_under : (limit : ℕ) (old stood : Standing) (over : Bool) → IsWithin p stood.state.steps →
      Silently (activation_of None program context old false) (activation_of None program context stood over) →
      Pauses (lesser p limit) (activation_of None program context stood over) (turn (activation_of None program context stood over)) →
      Silently (activation_of p program context old false) (activation_of p program context stood over) × Pauses limit (activation_of p program context stood over) (turn (activation_of p program context stood over))
  ahead_under limit old stood over within went pauses =
      ((went.0, runs_under p went.0 (activation_of None program context old false) [] (activation_of None program context stood over) within went.1), by over (is_reached p stood.state.steps) refl pauses)
    where
      by : (over y : Bool) → is_reached p stood.state.steps ≡ y → Pauses (lesser p limit) (activation_of None program context stood over) (turn (activation_of None program context stood over)) →
          Pauses limit (activation_of p program context stood over) (cond (over || y) Ended (turned (activation_of p program context stood over) (step program context stood.relay stood.state)))
      by true y e h = tt
      by false true e h = tt
      by false false e h = pauses_by limit stood (step program context stood.relay stood.state) e h

-- The same, as the code calls the machine.
pub within_with : (program : List Insn) (bytes context : List ℕ) (old new : Standing) (limit : ℕ) (result : StopReason) → context ≡ bytes → IsOfRun program bytes old →
    ((answers : List (List ℕ)) → Reached program context old.relay answers old.state → Advances program context old.relay answers limit old.state result new) →
    (state : State) → state ≡ Stood result new.state → (m : ℕ) → old.state.steps ≤ m → limit ≤ m → state.steps ≤ m
within_with program bytes context old new limit result same run advances state state_is m few le =
    let reached : Reached program context old.relay run.answers old.state = subst (λ (l : List ℕ). Reached program l old.relay run.answers old.state) (sym same) run.reached in
    subst (λ (s : State). s.steps ≤ m) (sym state_is) (taken_within program context old.relay run.answers limit m old.state new result (advances run.answers reached) few le)

-- One step is counted.
pub stopped_counts : (o : Outcome) (result : StopReason) (s new : State) → CountsOnce s o → Stopped o result new → new.steps ≡ s.steps + 1
stopped_counts (Next t) Limit s new h at = ap (λ (u : State). u.steps) at ∙ h
stopped_counts (Next t) (Asked r) s new h at = absurd at
stopped_counts (Next t) (Exited n) s new h at = absurd at
stopped_counts (Ask q t) (Asked r) s new h at = ap (λ (u : State). u.steps) at.1 ∙ h
stopped_counts (Ask q t) Limit s new h at = absurd at
stopped_counts (Ask q t) (Exited n) s new h at = absurd at
stopped_counts (Exit r0 t) (Exited n) s new h at = ap (λ (u : State). u.steps) at.1 ∙ h
stopped_counts (Exit r0 t) Limit s new h at = absurd at
stopped_counts (Exit r0 t) (Asked r) s new h at = absurd at
stopped_counts (Trap cause) result s new h at = absurd at

lesser_within : (p : Option ℕ) (limit most old new : ℕ) → most ≡ lesser p limit → IsWithin p old → ((m : ℕ) → old ≤ m → most ≤ m → new ≤ m) → IsWithin p new
lesser_within None limit most old new is few within = tt
lesser_within (Some p) limit most old new is few within = within p few (omega arith)

-- The same with a patience, as the code calls the machine.
pub went_under : (p : Option ℕ) (program code : List Insn) (context bytes : List ℕ) (limit most : ℕ) (old new : Standing) (was over : Bool) (a : Activation) → code ≡ program → bytes ≡ context → most ≡ lesser p limit →
    activation_of p program context old was ≡ a → has_ended a ≡ false → IsWithin p old.state.steps → ((m : ℕ) → old.state.steps ≤ m → most ≤ m → new.state.steps ≤ m) →
    Silently (activation_of None code bytes old false) (activation_of None code bytes new over) →
    Pauses most (activation_of None code bytes new over) (turn (activation_of None code bytes new over)) →
    Silently a (activation_of p program context new over) × Pauses limit (activation_of p program context new over) (turn (activation_of p program context new over))
went_under p program code context bytes limit most old new was over a same_code same_bytes is view going few within went pauses =
    let closed : was ≡ false = (or_parts was (is_reached p old.state.steps) (subst (λ (x : Activation). has_ended x ≡ false) (sym view) going)).0 in
    let went' : Silently (activation_of None program context old false) (activation_of None program context new over) =
    subst (λ (c : List Insn). Silently (activation_of None c context old false) (activation_of None c context new over)) same_code
    (subst (λ (l : List ℕ). Silently (activation_of None code l old false) (activation_of None code l new over)) same_bytes went) in
    let pauses' : Pauses (lesser p limit) (activation_of None program context new over) (turn (activation_of None program context new over)) =
    subst (λ (c : List Insn). Pauses (lesser p limit) (activation_of None c context new over) (turn (activation_of None c context new over))) same_code
    (subst (λ (l : List ℕ). Pauses (lesser p limit) (activation_of None code l new over) (turn (activation_of None code l new over))) same_bytes
    (subst (λ (n : ℕ). Pauses n (activation_of None code bytes new over) (turn (activation_of None code bytes new over))) is pauses)) in
    let both = ahead_under p program context limit old new over (lesser_within p limit most old.state.steps new.state.steps is few within) went' pauses' in
    (subst (λ (x : Activation). Silently x (activation_of p program context new over)) (ap (λ (b : Bool). activation_of p program context old b) (sym closed) ∙ view) both.0, both.1)
