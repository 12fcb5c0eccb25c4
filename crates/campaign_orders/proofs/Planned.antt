-- A schedule's line is made name by name, and a schedule line by line.
use Rattle.std.proofs.Common.{◌≡◌, ℕ, zero, suc, ◌+◌, ◌<◌, List, [], ◌∷◌, ◌++◌, length, drop, get_or, true, false, refl, sym, ap, subst, ◌∙◌, Some, append_assoc, append-nil, arith, drop-cons, Vec, Result, Ok, Err}
use Rattle.std.specs.Prelude.{slice_get, IfOk}
use Rattle.std.specs.Global.{Global}
use Rattle.round.specs.Scenario.{Scenario, IsScenario}
use Rattle.world.specs.declared.event.Event.{Event}
use Rattle.world.specs.declared.schedule.Repeat.{Repeat}
use Rattle.world.specs.Campaigns.{AreCampaigns}
use Rattle.world.specs.Kind.{Kind, World, opening, run}
use Rattle.world.specs.KindLists.{listed, replayed, ticks_named, names_events, wound_up}
use Rattle.world.specs.Schedules.{lines_by}
use Rattle.world.specs.Playing.{lists_in}
use Rattle.world.proofs.Moves.{moves_same, run-append}
use Rattle.world.proofs.Lasting.{names_moves}
use Rattle.campaign_orders.specs.declared.schedule_outcome.Scheduled.{Scheduled}
use Rattle.campaign_orders.specs.declared.schedule_outcome.Scheduled.TheVariants.{By, Never}
use Rattle.campaign_orders.specs.Orders.{will_ask, past, behind, order_of}
use Rattle.campaign_orders.specs.Walks.{IsWalk, AreWalks, IsStuckAt, IsStuckIn, IsCompletion}
use Rattle.campaign_orders.specs.Schedules.{entries_from, schedule_from}
use Rattle.campaign_orders.specs.Planning.{IsStepTo, IsScheduleOf, IsPlan, BringsBack}
use Rattle.campaign_orders.proofs.Leading.{replay_completes}
use Rattle.campaign_orders.proofs.ScheduleLaws.{walks_played, orders_walk}
use Rattle.campaign_orders.proofs.Deciding.{again}

-- The first of the names from an index on.
pub names_at : (names : List ℕ) (i : ℕ) → i < length names → drop i names ≡ get_or names i 0 ∷ drop (i + 1) names
names_at names i lt =
    let one : suc i ≡ i + 1 = omega arith in
    drop-cons names i 0 lt ∙ (λ j. get_or names i 0 ∷ drop (one j) names)

pub lists_at : (names : List (Vec ℕ Global)) (i : ℕ) (line : Vec ℕ Global) → i < length names → line ≡ get_or names i line → lists_in (drop i names) ≡ line.items ∷ lists_in (drop (i + 1) names)
lists_at names i line lt e =
    let one : suc i ≡ i + 1 = omega arith in
    ap lists_in (drop-cons names i line lt) ∙ (λ j. (sym e j).items ∷ lists_in (drop (one j) names))

pub if_ok_map : {A E : Type 0} (r : Result A E) (P Q : A → Type 0) → ((x : A) → P x → Q x) → IfOk r P → IfOk r Q
if_ok_map (Ok x) P Q f h = f x h
if_ok_map (Err x) P Q f h = tt

module _ (K : Kind) where
  -- States that the first names have made their accesses from the start, and that what the entries for the other names
  -- are determines those for all.
  pub record IsOnLine (start : World) (names : List ℕ) (w : World) (rest : List ℕ) (i : ℕ) (made : List Repeat) : Type 0 where
    pub walk : IsWalk K w rest → IsWalk K start names
    pub stuck : (place : ℕ) → IsStuckAt K w rest place → IsStuckAt K start names (i + place)
    pub entries : made ++ entries_from K w rest ≡ entries_from K start names
    pub events : run K w (names_events K w rest) ≡ run K start (names_events K start names)

  pub line_begins : (w : World) (names : List ℕ) → IsOnLine w names w names 0 []
  line_begins w names = record {
    walk = λ h. h;
    stuck = λ place h. (let e : place ≡ 0 + place = omega arith in let A : ℕ → Type 0 = λ n. IsStuckAt K w names n in subst A e h);
    entries = refl;
    events = refl;
  }

  pub line_goes_on : (start w v : World) (names rest : List ℕ) (g i steps : ℕ) (made new : List Repeat) → IsOnLine start names w (g ∷ rest) i made → IsStepTo K w g v (Some steps) →
      new ≡ made ++ record { general = g; times = steps } ∷ [] → IsOnLine start names v rest (i + 1) new
  line_goes_on start w v names rest g i steps made new h step is =
      let A : World → Type 0 = λ u. IsOnLine start names u rest (i + 1) new in
      let ticks = ticks_named g (slice_get w.parts g) in
      let entry : Repeat = record { general = g; times = length ticks } in
      let new_is : new ≡ made ++ entry ∷ [] = is ∙ ap (λ (n : ℕ). made ++ record { general = g; times = n } ∷ []) step.1 in
      subst A (sym step.2) (record {
        walk = λ k. h.walk (step.0, k);
        stuck = λ place k. (let e : i + suc place ≡ i + 1 + place = omega arith in let B : ℕ → Type 0 = λ n. IsStuckAt K start names n in subst B e (h.stuck (suc place) (step.0, k)));
        entries = ap (λ (l : List Repeat). l ++ entries_from K (past K w g) rest) new_is ∙ (append_assoc made (entry ∷ []) (entries_from K (past K w g) rest) ∙ h.entries);
        events = sym (run-append K ticks (names_events K (past K w g) rest) w) ∙ h.events;
      })

  pub line_ends : (start w : World) (names : List ℕ) (i : ℕ) (made : List Repeat) → IsOnLine start names w [] i made → IsWalk K start names × (made ≡ entries_from K start names) × (w ≡ run K start (names_events K start names))
  line_ends start w names i made h = (h.walk tt, sym (append-nil made) ∙ h.entries, h.events)

  pub line_stops : (start w v : World) (names rest : List ℕ) (g i : ℕ) (made : List Repeat) → IsOnLine start names w (g ∷ rest) i made → will_ask (slice_get w.parts g) ≡ false → IsStuckAt K start names i
  line_stops start w v names rest g i made h none =
      let e : i + 0 ≡ i = omega arith in
      let A : ℕ → Type 0 = λ n. IsStuckAt K start names n in
      subst A e (h.stuck 0 none)

  -- The same for rounds.
  pub record IsOnSchedule (start : World) (names : List (List ℕ)) (w : World) (rest : List (List ℕ)) (i : ℕ) (made : List (List Repeat)) : Type 0 where
    pub walk : AreWalks K w rest → AreWalks K start names
    pub stuck : (round place : ℕ) → IsStuckIn K w rest round place → IsStuckIn K start names (i + round) place
    pub lines : made ++ schedule_from K w rest ≡ schedule_from K start names

  pub schedule_begins : (w : World) (names : List (List ℕ)) → IsOnSchedule w names w names 0 []
  schedule_begins w names = record {
    walk = λ h. h;
    stuck = λ round place h. (let e : round ≡ 0 + round = omega arith in let A : ℕ → Type 0 = λ n. IsStuckIn K w names n place in subst A e h);
    lines = refl;
  }

  pub schedule_goes_on : (start w v u : World) (names rest : List (List ℕ)) (line : List ℕ) (i : ℕ) (entries : List Repeat) (made new : List (List Repeat)) → IsOnSchedule start names w (line ∷ rest) i made →
      IsWalk K w line × (entries ≡ entries_from K w line) × (v ≡ run K w (names_events K w line)) → u ≡ run K v (wound_up v.scenario) → new ≡ made ++ entries ∷ [] → IsOnSchedule start names u rest (i + 1) new
  schedule_goes_on start w v u names rest line i entries made new h here wound is =
      let same : v.scenario ≡ w.scenario = ap (λ (x : World). x.scenario) here.2 ∙ (moves_same K (names_events K w line) w (names_moves K line w)).scenario in
      let A : World → Type 0 = λ x. IsOnSchedule start names x rest (i + 1) new in
      let there : u ≡ behind K w line = wound ∙ ((λ j. run K (here.2 j) (wound_up (same j))) ∙ sym (run-append K (names_events K w line) (wound_up w.scenario) w)) in
      let new_is : new ≡ made ++ entries_from K w line ∷ [] = is ∙ ap (λ (l : List Repeat). made ++ l ∷ []) here.1 in
      subst A (sym there) (record {
        walk = λ k. h.walk (here.0, k);
        stuck = λ round place k. (let e : i + suc round ≡ i + 1 + round = omega arith in let B : ℕ → Type 0 = λ n. IsStuckIn K start names n place in subst B e (h.stuck (suc round) place (here.0, k)));
        lines = ap (λ (l : List (List Repeat)). l ++ schedule_from K (behind K w line) rest) new_is ∙ (append_assoc made (entries_from K w line ∷ []) (schedule_from K (behind K w line) rest) ∙ h.lines);
      })

  pub schedule_ends : (start w : World) (names : List (List ℕ)) (i : ℕ) (made : List (List Repeat)) → IsOnSchedule start names w [] i made → AreWalks K start names × (made ≡ schedule_from K start names)
  schedule_ends start w names i made h = (h.walk tt, sym (append-nil made) ∙ h.lines)

  pub schedule_stops : (start w : World) (names rest : List (List ℕ)) (line : List ℕ) (i place : ℕ) (made : List (List Repeat)) → IsOnSchedule start names w (line ∷ rest) i made → IsStuckAt K w line place → IsStuckIn K start names i place
  schedule_stops start w names rest line i place made h none =
      let e : i + 0 ≡ i = omega arith in
      let A : ℕ → Type 0 = λ n. IsStuckIn K start names n place in
      subst A e (h.stuck 0 place none)

  -- If a general makes no further access at his turn, the names cannot make their accesses in this order.
  stuck_line : (w : World) (names : List ℕ) (place : ℕ) → IsStuckAt K w names place → IsWalk K w names → ⊥
  stuck_line w [] place s h = s
  stuck_line w (g ∷ names) zero s h = (let f = sym s ∙ h.0 in let c : false ≡ true = f in cc)
  stuck_line w (g ∷ names) (suc place) s h = stuck_line (past K w g) names place s.1 h.1

  stuck_walks : (w : World) (names : List (List ℕ)) (round place : ℕ) → IsStuckIn K w names round place → AreWalks K w names → ⊥
  stuck_walks w [] round place s h = s
  stuck_walks w (line ∷ names) zero place s h = stuck_line w line place s h.0
  stuck_walks w (line ∷ names) (suc round) place s h = stuck_walks (behind K w line) names round place s.1 h.1

module _ (K : Kind) (good : AreCampaigns K) where
  pub plan_of : (s : Scenario) (names : List (List ℕ)) (scheduled : Scheduled) → IsScenario s → IsScheduleOf K (opening K s) names scheduled → IsPlan K s names scheduled
  plan_of s names (By schedule) is h =
      let played : listed s (lines_by schedule) ≡ replayed K s names = ap (λ l. listed s (lines_by l)) h.1 ∙ walks_played K good s names is h.0 in
      let A : List (List ℕ) → Type 0 = λ o. IsCompletion names o in
      (played, subst A (ap (order_of K s) (sym played)) (replay_completes K s names (good s is) h.0))
  plan_of s names (Never round place) is h = stuck_walks K (opening K s) names round place h

  pub brings_back : (s : Scenario) (names : List (List ℕ)) (scheduled : Scheduled) → IsScenario s → IsPlan K s names scheduled → BringsBack K s names scheduled
  brings_back s names (By schedule) is h events c e =
      ap (λ (es : List Event). run K (opening K s) es) h.0 ∙ (ap (λ (o : List (List ℕ)). run K (opening K s) (replayed K s o)) e ∙ again K good s events is c)
  brings_back s names (Never round place) is h events c e =
      let order = order_of K s events in
      let A : List (List ℕ) → Type 0 = λ o. AreWalks K (opening K s) o in
      h (subst A (sym e) (orders_walk K good s order is (events, c, refl)))
