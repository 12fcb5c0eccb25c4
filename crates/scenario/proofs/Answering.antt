-- The result of reading a text, and the loop over the traitors' tables.
use Rattle.std.proofs.Common.{◌≡◌, ℕ, ◌+◌, ◌<◌, ◌≤◌, Bool, true, false, List, length, drop, get_or, Option, None, Some, Result, Ok, Err, refl, sym, inl, inr}
use Rattle.std.specs.Prelude.{MatchBool, slice_set, codes}
use Rattle.insn.specs.declared.insn.Insn.{Insn}
use Rattle.toml.proofs.Views.{items_view-drop}
use Rattle.toml.specs.Data.{Items, Members, no_items, item, get_member}
use Rattle.toml.specs.View.{view, items_view}
use Rattle.toml.specs.declared.value.Value.{Value}
use Rattle.scenario.specs.declared.fault.ScenarioError.{ScenarioError}
use Rattle.scenario.specs.declared.fault.ScenarioError.TheVariants as errors
use Rattle.scenario.specs.Flaws.{Flaw, Fails, Gives, OrMemory}
use Rattle.scenario.specs.Checks.{Head, tables}
use Rattle.scenario.specs.Tables.{Seats, table}
use Rattle.round.specs.Scenario.{Scenario}
use Rattle.scenario.specs.declared.messages.Campaign.{Campaign}
use Rattle.scenario.specs.Reading.{TableGives, Answers, Begun, Headed, Answered, scenario_of, campaign_by, campaign_of, unseated}
use Rattle.scenario.proofs.Items.{drop_all}

-- A right result is also right if out of memory is allowed.
pub or_is : {X : Type 0} (IsAnswer : Result X ScenarioError → Type 0) (r : Result X ScenarioError) → IsAnswer r → OrMemory IsAnswer r
or_is IsAnswer (Ok x) h = h
or_is IsAnswer (Err errors.Memory) h = tt
or_is IsAnswer (Err errors.Toml) h = h
or_is IsAnswer (Err (errors.Unknown at key)) h = h
or_is IsAnswer (Err (errors.At fault place)) h = h
or_is IsAnswer (Err (errors.Program g fault)) h = h

-- Out of memory is a right result.
pub or_refused : {X : Type 0} (IsAnswer : Result X ScenarioError → Type 0) (e : ScenarioError) → e ≡ errors.Memory → OrMemory IsAnswer (Err e)
or_refused IsAnswer e h = rw h tt

-- The error of a part is the error of the whole.
pub or_fails : {X Y : Type 0} (IsPart : Result X ScenarioError → Type 0) (IsWhole : Result Y ScenarioError → Type 0) (e : ScenarioError) → (IsPart (Err e) → IsWhole (Err e)) → OrMemory IsPart (Err e) → OrMemory IsWhole (Err e)
or_fails IsPart IsWhole errors.Memory f h = tt
or_fails IsPart IsWhole errors.Toml f h = f h
or_fails IsPart IsWhole (errors.Unknown at key) f h = f h
or_fails IsPart IsWhole (errors.At fault place) f h = f h
or_fails IsPart IsWhole (errors.Program g fault) f h = f h

pub or_weaker : {X : Type 0} (P Q : Result X ScenarioError → Type 0) (r : Result X ScenarioError) → (P r → Q r) → OrMemory P r → OrMemory Q r
or_weaker P Q (Ok x) f h = f h
or_weaker P Q (Err e) f h = or_fails P Q e f h

-- An error does not report a check that found no fault.
none_fails : {Y : Type 0} (e : ScenarioError) (y : Y) → Fails e (Ok y) → ⊥
none_fails errors.Memory y w = w
none_fails errors.Toml y w = w
none_fails (errors.Program g fault) y w = w
none_fails (errors.Unknown at key) y w = cc
none_fails (errors.At fault place) y w = cc

module _ {X : Type 0} (made : Seats → X) (n : ℕ) where
  -- The table gives its general a program.
  pub answers_further : (i j : ℕ) (seats next : Seats) (vs : List Value) (v : Value) (seated : ℕ × List Insn) (r : Result X ScenarioError) → j ≡ i + 1 → i < length vs → v ≡ get_or vs i v
      → TableGives (table n seats i (view v)) (Ok seated) → next ≡ slice_set seats seated.0 (Some seated.1) → Answers made n j next (items_view (drop j vs)) r → Answers made n i seats (items_view (drop i vs)) r
  answers_further i j seats next vs v seated r q l e gives set rest =
      let rest' : Answers made n (i + 1) (slice_set seats seated.0 (Some seated.1)) (items_view (drop (i + 1) vs)) r = rw (sym q, sym set) rest in
      rw (items_view-drop vs i v l, ← e) (inr (seated, gives, rest'))

  -- The table has a fault, at which the reading stops.
  pub answers_stopped : (i : ℕ) (seats : Seats) (vs : List Value) (v : Value) (e : ScenarioError) → i < length vs → v ≡ get_or vs i v
      → TableGives (table n seats i (view v)) (Err e) → Answers made n i seats (items_view (drop i vs)) (Err e)
  answers_stopped i seats vs v e l is gives = rw (items_view-drop vs i v l, ← is) (inl gives)

  -- No table remains.
  pub answers_ended : (i : ℕ) (seats : Seats) (vs : List Value) (x : X) → length vs ≤ i → x ≡ made seats → Answers made n i seats (items_view (drop i vs)) (Ok x)
  answers_ended i seats vs x l e = rw (drop_all i vs l) (rw e refl)

-- A result from which another one is made.
module _ {X Z : Type 0} (f : X → Z) (made : Seats → X) (n : ℕ) where
  pub answers_made : (i : ℕ) (seats : Seats) (ds : Items) (x : X) → Answers made n i seats ds (Ok x) → Answers (λ ss. f (made ss)) n i seats ds (Ok (f x))
  answers_made i seats no_items x is = let e : x ≡ made seats = cc in rw e refl
  answers_made i seats (item d ds) x (inl none) = absurd none
  answers_made i seats (item d ds) x (inr (seated, gives, rest)) = inr (seated, gives, answers_made (i + 1) (slice_set seats seated.0 (Some seated.1)) ds x rest)

  pub answers_failed : (i : ℕ) (seats : Seats) (ds : Items) (e : ScenarioError) → Answers made n i seats ds (Err e) → Answers (λ ss. f (made ss)) n i seats ds (Err e)
  answers_failed i seats no_items e is = absurd (let q = is in cc)
  answers_failed i seats (item d ds) e (inl stops) = inl stops
  answers_failed i seats (item d ds) e (inr (seated, gives, rest)) = inr (seated, gives, answers_failed (i + 1) (slice_set seats seated.0 (Some seated.1)) ds e rest)

module _ {X : Type 0} (made : Head → Seats → X) (head_of : Members → Result Head Flaw) where
  -- A fault in the head, in the list of tables, or in a table.
  headed_fails : (read : Result Head Flaw) (ms : Members) (e : ScenarioError) → Fails e read → Headed made read ms (Err e)
  headed_fails (Err f) ms e w = w
  headed_fails (Ok h) ms e w = absurd (none_fails e h w)

  begun_fails : (h : Head) (read : Result Items Flaw) (e : ScenarioError) → Fails e read → Begun made h read (Err e)
  begun_fails h (Err f) e w = w
  begun_fails h (Ok ds) e w = absurd (none_fails e ds w)

  pub head_fails : (ms : Members) (e : ScenarioError) → OrMemory (λ r. Gives (λ h. h) r (head_of ms)) (Err e) → OrMemory (Answered made head_of (Some ms)) (Err e)
  head_fails ms e w = or_fails (λ r. Gives (λ h. h) r (head_of ms)) (Answered made head_of (Some ms)) e (headed_fails (head_of ms) ms e) w

  pub tables_fail : (ms : Members) (h : Head) (e : ScenarioError) → head_of ms ≡ Ok h → Fails e (tables (get_member (codes "traitor") ms)) → OrMemory (Answered made head_of (Some ms)) (Err e)
  tables_fail ms h e is w = or_is (Answered made head_of (Some ms)) (Err e) (rw is (begun_fails h (tables (get_member (codes "traitor") ms)) e w))

  -- After a head and a list of tables without faults, the result is the result for the tables.
  pub seats_answer : (ms : Members) (h : Head) (ds : Items) (r : Result X ScenarioError) → head_of ms ≡ Ok h → tables (get_member (codes "traitor") ms) ≡ Ok ds
      → OrMemory (Answers (made h) h.generals 0 (unseated h) ds) r → OrMemory (Answered made head_of (Some ms)) r
  seats_answer ms h ds r is them w = or_weaker (Answers (made h) h.generals 0 (unseated h) ds) (Answered made head_of (Some ms)) r (λ a. rw (is, them) a) w

  -- A text that was not parsed: memory ran out, or it is not TOML.
  pub reads_unparsed : (parsed : Option Members) (is_memory : Bool) (e : ScenarioError) → MatchBool is_memory (e ≡ errors.Memory) (e ≡ errors.Toml)
      → (is_memory ≡ false → parsed ≡ None) → OrMemory (Answered made head_of parsed) (Err e)
  reads_unparsed parsed true e is none = or_refused (Answered made head_of parsed) e is
  reads_unparsed parsed false e is none = or_is (Answered made head_of parsed) (Err e) (rw (none refl, is) refl)

-- The campaign of the scenario that the tables make, or its error.
module _ (h : Head) (ds : Items) where
  pub campaign_told : (s : Scenario) (x : Campaign) → x ≡ campaign_by h.messages s → Answers (scenario_of h) h.generals 0 (unseated h) ds (Ok s)
      → Answers (campaign_of h) h.generals 0 (unseated h) ds (Ok x)
  campaign_told s x made rest = rw made (answers_made (campaign_by h.messages) (scenario_of h) h.generals 0 (unseated h) ds s rest)

  pub campaign_failed : (e : ScenarioError) → OrMemory (Answers (scenario_of h) h.generals 0 (unseated h) ds) (Err e)
      → OrMemory (Answers (campaign_of h) h.generals 0 (unseated h) ds) (Err e)
  campaign_failed e rest = or_fails (Answers (scenario_of h) h.generals 0 (unseated h) ds) (Answers (campaign_of h) h.generals 0 (unseated h) ds) e (answers_failed (campaign_by h.messages) (scenario_of h) h.generals 0 (unseated h) ds e) rest
