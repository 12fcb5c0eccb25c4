-- The entries of a schedule made for accesses are valid in the text of a schedule.
use Rattle.std.proofs.Common.{◌≡◌, ◌≢◌, ℕ, zero, suc, ◌<◌, ◌≤◌, List, [], ◌∷◌, ◌++◌, length, Bool, true, false, cond, refl, sym, ap, subst, ◌∙◌, ⊎_elim, Option, Some, None, arith}
use Rattle.std.specs.Prelude.{slice_get, slice_set, replicate, ◌&&◌}
use Rattle.std.specs.List.{AllByRecursion, list_all}
use Rattle.insn.specs.declared.insn.Insn.{Insn}
use Rattle.board.specs.Board.{Access, reply}
use Rattle.semantics.specs.State.{Outcome, Next, Ask, Exit, Trap}
use Rattle.semantics.specs.Execution.{step}
use Rattle.round.specs.Activation.{Activation, Turn, Goes, Asks, Ended, has_ended, started, turn, turned}
use Rattle.round.specs.Letters.{Letter}
use Rattle.round.specs.Scenario.{Scenario, program_of}
use Rattle.world.specs.declared.event.Event.{Event}
use Rattle.world.specs.declared.event.Event.TheVariants.{Tick, Post, Close}
use Rattle.world.specs.declared.part.Progress.{Progress}
use Rattle.world.specs.declared.part.Progress.TheVariants.{Acting, Silent, Posted}
use Rattle.world.specs.Part.{owes_no_letter}
use Rattle.world.specs.declared.schedule.Repeat.{Repeat}
use Rattle.world.specs.Kind.{Kind, World, begins, begun, closing, each, happen, opening, posting, round_letters, round_open, run, served, ticked}
use Rattle.world.specs.KindLists.{further_turns, names_events, ticks_named, until_access, wound_up}
use Rattle.world.proofs.Listing.{each-get_only}
use Rattle.world.proofs.Moves.{set-cases}
use Rattle.campaign_orders.specs.Orders.{asks_or, asks_within, behind, past, will_ask}
use Rattle.campaign_orders.specs.Schedules.{entries_from, schedule_from}
use Rattle.campaign_orders.specs.Text.{schedule_text}
use Rattle.campaign_orders.specs.Walks.{AreWalks, IsWalk}
use Rattle.campaign_orders.proofs.Spending.{text_short}
use Rattle.world.specs.Campaigns.{IsCampaign}
use Rattle.campaign_schedules.specs.Reading.{IsEntry, IsReadAs, SchedulesAreRead}

-- ---- the number of steps up to an access

asks_some : (k : ℕ) (o : Turn) → asks_or (asks_within k) o ≡ true → 1 ≤ further_turns (until_access k) o
asks_some k (Goes b) will = omega arith
asks_some k (Asks q f) will = omega arith
asks_some k Ended will = absurd (let f : false ≡ true = will in cc)

steps_some : (k : ℕ) (a : Activation) → asks_within k a ≡ true → 1 ≤ until_access k a
steps_some zero a will = absurd (let f : false ≡ true = will in cc)
steps_some (suc k) a will = asks_some k (turn a) will

further_few : (k : ℕ) (o : Turn) → ((b : Activation) → until_access k b ≤ k) → further_turns (until_access k) o ≤ suc k
further_few k (Goes b) few = (let h = few b in omega arith)
further_few k (Asks q f) few = omega arith
further_few k Ended few = omega arith

steps_few : (k : ℕ) (a : Activation) → until_access k a ≤ k
steps_few zero a = omega arith
steps_few (suc k) a = further_few k (turn a) (λ b. steps_few k b)

ticks_many : (n g : ℕ) → length (replicate n (Tick g)) ≡ n
ticks_many zero g = refl
ticks_many (suc n) g = ap suc (ticks_many n g)

-- ---- a turn does not change the program

abbrev KeepsProgram : Activation → Turn → Type 0
KeepsProgram a (Goes b) = b.program ≡ a.program
KeepsProgram a (Asks q f) = (r : List ℕ) → (f r).program ≡ a.program
KeepsProgram a Ended = Unit {0}

turned_keeps : (a : Activation) (o : Outcome) → KeepsProgram a (turned a o)
turned_keeps a (Next s) = refl
turned_keeps a (Ask q s) = λ r. refl
turned_keeps a (Exit r0 s) = refl
turned_keeps a (Trap cause) = refl

turn_keeps : (a : Activation) → KeepsProgram a (turn a)
turn_keeps a = by (has_ended a)
  where
    by : (b : Bool) → KeepsProgram a (cond b Ended (turned a (step a.program a.context a.relay a.state)))
    by true = tt
    by false = turned_keeps a (step a.program a.context a.relay a.state)

-- ---- each general of an entry exists, and his program has at most 4,096 instructions

abbrev pub AreShort : Scenario → Type 0
AreShort s = (g : ℕ) (program : List Insn) → program_of s g ≡ Some program → length program ≤ 4096

record IsSmall (s : Scenario) (w : World) : Type 0 where
  scenario : w.scenario ≡ s
  acting : (g : ℕ) (a : Activation) → slice_get w.parts g ≡ Some (Acting a) → (g < s.generals) × (length a.program ≤ 4096)

small_set : (s : Scenario) (w : World) (g : ℕ) (a b : Activation) → slice_get w.parts g ≡ Some (Acting a) → b.program ≡ a.program → IsSmall s w
    → (h : ℕ) (x : Activation) → slice_get (slice_set w.parts g (Acting b)) h ≡ Some (Acting x) → (h < s.generals) × (length x.program ≤ 4096)
small_set s w g a b at kept small h x e =
    ⊎_elim
    (λ (k : (h ≡ g) × (Acting x ≡ Acting b)).
    let here = small.acting g a at in
    let same : x ≡ b = (let f = k.1 in cc) in
    let long : length x.program ≡ length a.program = ap (λ (y : Activation). length y.program) same ∙ ap length kept in
    let lt = here.0 in
    let le = here.1 in
    let is = k.0 in
    (omega arith, omega arith))
    (λ (k : (h ≢ g) × (slice_get w.parts h ≡ Some (Acting x))). small.acting h x k.1)
    (set-cases w.parts g h (Acting b) (Acting x) e)

small_served : (s : Scenario) (w : World) (g : ℕ) (a : Activation) → slice_get w.parts g ≡ Some (Acting a) → IsSmall s w → (o : Turn) → KeepsProgram a o → IsSmall s (served w g o)
small_served s w g a at small (Goes b) kept = record { scenario = small.scenario; acting = small_set s w g a b at kept small }
small_served s w g a at small (Asks q f) kept = record { scenario = small.scenario; acting = small_set s w g a (f (reply w.words q)) at (kept (reply w.words q)) small }
small_served s w g a at small Ended kept = small

small_ticked : (s : Scenario) (w : World) (g : ℕ) → IsSmall s w → (o : Option Progress) → slice_get w.parts g ≡ o → IsSmall s (ticked w g o)
small_ticked s w g small None at = small
small_ticked s w g small (Some (Acting a)) at = small_served s w g a at small (turn a) (turn_keeps a)
small_ticked s w g small (Some Silent) at = small
small_ticked s w g small (Some Posted) at = small

small_posting : (s : Scenario) (w : World) (g : ℕ) → IsSmall s w → (o : Option Progress) → IsSmall s (posting w g o)
small_posting s w g small None = small
small_posting s w g small (Some (Acting a)) = small
small_posting s w g small (Some Silent) = record {
  scenario = small.scenario;
  acting = λ h x e. ⊎_elim
      (λ (k : (h ≡ g) × (Acting x ≡ Posted)). absurd (let f = k.1 in cc))
      (λ (k : (h ≢ g) × (slice_get w.parts h ≡ Some (Acting x))). small.acting h x k.1)
      (set-cases w.parts g h Posted (Acting x) e);
}
small_posting s w g small (Some Posted) = small

module _ (K : Kind) (s : Scenario) (short : AreShort s) where
  small_begins : (closed : List (List Letter)) (g : ℕ) (x : Activation) (o : Option (List Insn)) → program_of s g ≡ o → Acting x ≡ begins K s closed g o → length x.program ≤ 4096
  small_begins closed g x None at e = absurd (let f : Acting x ≡ Silent = e in cc)
  small_begins closed g x (Some program) at e =
      let same : x ≡ started s.patience program (K.context s closed g) (K.relay s closed g) = (let f : Acting x ≡ Acting (started s.patience program (K.context s closed g) (K.relay s closed g)) = e in cc) in
      let few = short g program at in
      let long : length x.program ≡ length program = ap (λ (y : Activation). length y.program) same in
      omega arith

  small_parts : (closed : List (List Letter)) (open_now : Bool) (g : ℕ) (x : Activation)
      → slice_get (cond open_now (each s.generals (λ h. begins K s closed h (program_of s h) ∷ [])) []) g ≡ Some (Acting x) → (g < s.generals) × (length x.program ≤ 4096)
  small_parts closed true g x e =
      let h = each-get_only s.generals (λ j. begins K s closed j (program_of s j)) g (Acting x) e in
      (h.0, small_begins closed g x (program_of s g) refl h.1)
  small_parts closed false g x e = absurd (let f : None ≡ Some (Acting x) = e in cc)

  small_begun : (closed : List (List Letter)) (words : List ℕ) (ledger : List Access) (full : Bool) → IsSmall s (begun K s closed words ledger full)
  small_begun closed words ledger full = record { scenario = refl; acting = small_parts closed (round_open s closed) }

  small_closed : (w : World) → IsSmall s w → (b : Bool) → IsSmall s (cond b (closing K w) w)
  small_closed w small true =
      let A : Scenario → Type 0 = λ t. IsSmall s (begun K t (w.closed ++ round_letters K w ∷ []) w.words w.ledger (w.full && list_all owes_no_letter w.parts)) in
      subst A (sym small.scenario) (small_begun (w.closed ++ round_letters K w ∷ []) w.words w.ledger (w.full && list_all owes_no_letter w.parts))
  small_closed w small false = small

  small_happen : (w : World) (e : Event) → IsSmall s w → IsSmall s (happen K w e)
  small_happen w (Tick g) small = small_ticked s w g small (slice_get w.parts g) refl
  small_happen w (Post g) small = small_posting s w g small (slice_get w.parts g)
  small_happen w Close small = small_closed w small (round_open w.scenario w.closed)

  small_run : (es : List Event) (w : World) → IsSmall s w → IsSmall s (run K w es)
  small_run [] w small = small
  small_run (e ∷ es) w small = small_run es (happen K w e) (small_happen w e small)

  -- ---- each entry is valid

  entry_is : s.generals ≤ 13 → (w : World) (g : ℕ) → IsSmall s w → (o : Option Progress) → slice_get w.parts g ≡ o → will_ask o ≡ true → IsEntry (record { general = g; times = length (ticks_named g o) })
  entry_is few w g small None at will = absurd (let f : false ≡ true = will in cc)
  entry_is few w g small (Some (Acting a)) at will =
      let here = small.acting g a at in
      let lt = here.0 in
      let le = here.1 in
      let many = ticks_many (until_access (length a.program) a) g in
      let some = steps_some (length a.program) a will in
      let most = steps_few (length a.program) a in
      record { general = omega arith; least = omega arith; most = omega arith }
  entry_is few w g small (Some Silent) at will = absurd (let f : false ≡ true = will in cc)
  entry_is few w g small (Some Posted) at will = absurd (let f : false ≡ true = will in cc)

  entries_are : s.generals ≤ 13 → (names : List ℕ) (w : World) → IsSmall s w → IsWalk K w names → AllByRecursion IsEntry (entries_from K w names)
  entries_are few [] w small walk = tt
  entries_are few (g ∷ names) w small walk =
      (entry_is few w g small (slice_get w.parts g) refl walk.0, entries_are few names (past K w g) (small_run (ticks_named g (slice_get w.parts g)) w small) walk.1)

  lines_are : s.generals ≤ 13 → (names : List (List ℕ)) (w : World) → IsSmall s w → AreWalks K w names → AllByRecursion (AllByRecursion IsEntry) (schedule_from K w names)
  lines_are few [] w small walks = tt
  lines_are few (line ∷ names) w small walks =
      (entries_are few line w small walks.0, lines_are few names (behind K w line) (small_run (names_events K w line ++ wound_up w.scenario) w small) walks.1)

  lines_count : (names : List (List ℕ)) (w : World) → length (schedule_from K w names) ≡ length names
  lines_count [] w = refl
  lines_count (line ∷ names) w = ap suc (lines_count names (behind K w line))

  -- Proves that parsing the text of a schedule for given generals gives it again.
  pub schedule_read : IsCampaign K s → SchedulesAreRead → s.generals ≤ 13 → (names : List (List ℕ)) (schedule : List (List Repeat)) → length names ≤ 5 → AreWalks K (opening K s) names → schedule ≡ schedule_from K (opening K s) names
      → IsReadAs (schedule_text schedule) schedule
  schedule_read sound read few names schedule five walks is =
      let all = lines_are few names (opening K s) (small_begun [] s.board [] true) walks in
      let count = lines_count names (opening K s) in
      let few_lines : length (schedule_from K (opening K s) names) ≤ 5 = omega arith in
      subst (λ (l : List (List Repeat)). IsReadAs (schedule_text l) l) (sym is) (read (schedule_from K (opening K s) names) all few_lines (text_short K s sound few short names five walks))
