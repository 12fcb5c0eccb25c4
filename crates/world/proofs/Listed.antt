-- Lists of events: entry by entry, name by name and round by round.
use Rattle.std.proofs.Common.{◌≡◌, ℕ, zero, suc, ◌+◌, ◌-◌, ◌<◌, ◌≤◌, List, [], ◌∷◌, ◌++◌, map, drop, Bool, refl, sym, ap, ◌∙◌, Option, Some, None, arith}
use Rattle.std.specs.Prelude.{slice_get, slice_index_or, replicate, nat_lt, filter, OnOk}
use Rattle.std.proofs.Common.{Result, Ok, Err, subst}
use Rattle.std.proofs.lemmas.List.{map-append}
use Rattle.std.proofs.lemmas.List.Elements.{filter-append}
use Rattle.std.proofs.lemmas.Bool.{lt-ltb, le-ltb}
use Rattle.world.specs.declared.event.Event.{Event}
use Rattle.world.specs.declared.event.Event.TheVariants.{Post, Close}
use Rattle.world.specs.declared.schedule.Repeat.{Repeat}
use Rattle.round.specs.Scenario.{Scenario, program_of}
use Rattle.world.specs.Part.{Progress, Acting, Silent, Posted}
use Rattle.world.specs.Kind.{Kind, World, each, opening, posting, happen, run}
use Rattle.world.specs.KindLists.{first_line, later_lines, event_of, post_of, ticks_of, wound_up, listed_rounds, listed, ticks_named, names_events, replayed_rounds, replayed}
use Rattle.world.specs.Schedules.{entries_of, lines_by}
use Rattle.world.specs.Playing.{line_events}
use Rattle.world.proofs.Listing.{set-here}
use Rattle.round.specs.Scenario.{IsScenario}
use Rattle.world.specs.Agreement.{IsFinished}
use Rattle.world.proofs.Lasting.{listed_complete, replayed_complete}
use Rattle.world.proofs.Punctual.{punctual_full}
use Rattle.world.proofs.Moves.{run-append}
use Rattle.world.proofs.Punctual.{run_scenario}
use Rattle.world.specs.Campaigns.{AreCampaigns}

-- A general's entries are his events. An entry that names no general is no event.
pub line_of : (s : Scenario) (g n : ℕ) → g < s.generals → line_events s (replicate n g) ≡ replicate n (event_of g (program_of s g))
line_of s g zero lt = refl
line_of s g (suc n) lt = rw (lt-ltb g s.generals lt) (ap (λ l. event_of g (program_of s g) ∷ l) (line_of s g n lt))

pub line_none : (s : Scenario) (g n : ℕ) → s.generals ≤ g → line_events s (replicate n g) ≡ []
line_none s g zero le = refl
line_none s g (suc n) le = rw (le-ltb g s.generals le) (line_none s g n le)

-- The line of a round.
pub line_first : (schedule : List (List Repeat)) (i : ℕ) → first_line (lines_by (drop i schedule)) ≡ entries_of (slice_index_or schedule i [])
line_first [] zero = refl
line_first [] (suc i) = refl
line_first (line ∷ lines) zero = refl
line_first (line ∷ lines) (suc i) = line_first lines i

pub line_later : (schedule : List (List Repeat)) (i : ℕ) → later_lines (lines_by (drop i schedule)) ≡ lines_by (drop (suc i) schedule)
line_later [] zero = refl
line_later [] (suc i) = refl
line_later (line ∷ lines) zero = refl
line_later (line ∷ lines) (suc i) = line_later lines i

-- The lines from a round on.
pub names_first : (names : List (List ℕ)) (i : ℕ) → first_line (drop i names) ≡ slice_index_or names i []
names_first [] zero = refl
names_first [] (suc i) = refl
names_first (line ∷ lines) zero = refl
names_first (line ∷ lines) (suc i) = names_first lines i

pub names_later : (names : List (List ℕ)) (i : ℕ) → later_lines (drop i names) ≡ drop (suc i) names
names_later [] zero = refl
names_later [] (suc i) = refl
names_later (line ∷ lines) zero = refl
names_later (line ∷ lines) (suc i) = names_later lines i

pub drop_at : {A : Type 0} (xs : List A) (i : ℕ) (x : A) → slice_get xs i ≡ Some x → drop i xs ≡ x ∷ drop (suc i) xs
drop_at [] i x e = absurd (let f : None ≡ Some x = e in cc)
drop_at (y ∷ ys) zero x e = (let f : y ≡ x = cc in ap (λ z. z ∷ ys) f)
drop_at (y ∷ ys) (suc i) x e = drop_at ys i x e

module _ (K : Kind) where
  -- A second post changes nothing.
  post_again : (w : World) (g : ℕ) (o : Option Progress) → slice_get w.parts g ≡ o → happen K (posting w g o) (Post g) ≡ posting w g o
  post_again w g None e = ap (λ (p : Option Progress). posting w g p) e
  post_again w g (Some (Acting a)) e = ap (λ (p : Option Progress). posting w g p) e
  post_again w g (Some Silent) e = ap (λ (p : Option Progress). posting (posting w g (Some Silent)) g p) (set-here w.parts g Posted Silent e)
  post_again w g (Some Posted) e = ap (λ (p : Option Progress). posting w g p) e

  pub posts_once : (n : ℕ) (w : World) (g : ℕ) → run K w (replicate (suc n) (Post g)) ≡ happen K w (Post g)
  posts_once zero w g = refl
  posts_once (suc n) w g = (let again : happen K (happen K w (Post g)) (Post g) ≡ happen K w (Post g) = post_again w g (slice_get w.parts g) refl in posts_once n (happen K w (Post g)) g ∙ again)

  -- The entries of one general come first, and then the other entries.
  pub line_step : (s : Scenario) (w v : World) (r : Repeat) (rest : List Repeat) → v ≡ run K w (line_events s (replicate r.times r.general)) →
      run K w (line_events s (entries_of (r ∷ rest))) ≡ run K v (line_events s (entries_of rest))
  line_step s w v r rest is =
      let f : ℕ → Event = λ g. event_of g (program_of s g) in
      let p : ℕ → Bool = λ g. nat_lt g s.generals in
      let one = replicate r.times r.general in
      ap (run K w) (ap (map f) (filter-append p one (entries_of rest)) ∙ map-append f (filter p one) (filter p (entries_of rest)))
      ∙ (run-append K (line_events s one) (line_events s (entries_of rest)) w ∙ ap (λ (x : World). run K x (line_events s (entries_of rest))) (sym is))

  -- One round of a schedule.
  pub listed_step : (s : Scenario) (k i : ℕ) (schedule : List (List Repeat)) (w v u : World) → v ≡ run K w (line_events s (entries_of (slice_index_or schedule i []))) → u ≡ run K v (wound_up s) →
      run K w (listed_rounds s (suc k) (lines_by (drop i schedule))) ≡ run K u (listed_rounds s k (lines_by (drop (suc i) schedule)))
  listed_step s k i schedule w v u line wound =
      let es = line_events s (first_line (lines_by (drop i schedule))) in
      let rest = listed_rounds s k (later_lines (lines_by (drop i schedule))) in
      run-append K es (wound_up s ++ rest) w
      ∙ (ap (λ (l : List ℕ). run K (run K w (line_events s l)) (wound_up s ++ rest)) (line_first schedule i)
      ∙ (ap (λ (x : World). run K x (wound_up s ++ rest)) (sym line)
      ∙ (run-append K (wound_up s) rest v
      ∙ (ap (λ (x : World). run K x rest) (sym wound)
      ∙ ap (λ (l : List (List ℕ)). run K u (listed_rounds s k l)) (line_later schedule i)))))

  -- One name.
  pub names_step : (w v : World) (g : ℕ) (names : List ℕ) → v ≡ run K w (ticks_named g (slice_get w.parts g)) → run K w (names_events K w (g ∷ names)) ≡ run K v (names_events K v names)
  names_step w v g names is =
      let ticks = ticks_named g (slice_get w.parts g) in
      run-append K ticks (names_events K (run K w ticks) names) w ∙ ap (λ (x : World). run K x (names_events K x names)) (sym is)

  -- One round of a replay.
  pub replayed_step : (k i : ℕ) (names : List (List ℕ)) (w v u : World) → v ≡ run K w (names_events K w (slice_index_or names i [])) → u ≡ run K v (wound_up w.scenario) →
      run K w (replayed_rounds K w (suc k) (drop i names)) ≡ run K u (replayed_rounds K u k (drop (suc i) names))
  replayed_step k i names w v u named wound =
      let ns = names_events K w (first_line (drop i names)) in
      let es = ns ++ wound_up w.scenario in
      let there : run K w es ≡ u =
      run-append K ns (wound_up w.scenario) w
      ∙ (ap (λ (l : List ℕ). run K (run K w (names_events K w l)) (wound_up w.scenario)) (names_first names i)
      ∙ (ap (λ (x : World). run K x (wound_up w.scenario)) (sym named) ∙ sym wound)) in
      run-append K es (replayed_rounds K (run K w es) k (later_lines (drop i names))) w
      ∙ (ap (λ (x : World). run K x (replayed_rounds K x k (later_lines (drop i names)))) there
      ∙ ap (λ (l : List (List ℕ)). run K u (replayed_rounds K u k l)) (names_later names i))

  -- One more general posts or is ticked.
  pub each_step : (n : ℕ) (f : ℕ → List Event) (w v u : World) → v ≡ run K w (each n f) → u ≡ run K v (f n) → u ≡ run K w (each (n + 1) f)
  each_step n f w v u is more =
      let m : suc n ≡ n + 1 = omega arith in
      more ∙ (ap (λ (x : World). run K x (f n)) is ∙ (sym (run-append K (each n f) (f n) w) ∙ ap (λ (k : ℕ). run K w (each k f)) m))

  -- Posts, ticks and the close finish a round.
  pub wound_is : (s : Scenario) (w v u t : World) → v ≡ run K w (each s.generals (λ g. post_of g (program_of s g))) → u ≡ run K v (each s.generals (λ g. ticks_of g (program_of s g))) → t ≡ happen K u Close →
      t ≡ run K w (wound_up s)
  wound_is s w v u t posts ticks close =
      let ps = each s.generals (λ g. post_of g (program_of s g)) in
      let ts = each s.generals (λ g. ticks_of g (program_of s g)) in
      close ∙ (ap (λ (x : World). happen K x Close) ticks
      ∙ (ap (λ (x : World). happen K (run K x ts) Close) posts
      ∙ (sym (run-append K ts (Close ∷ []) (run K w ps)) ∙ sym (run-append K ps (ts ++ Close ∷ []) w))))

  -- One more entry of a line.
  pub line_more : (s : Scenario) (w v u : World) (rs : List Repeat) (i : ℕ) (r : Repeat) → slice_get rs i ≡ Some r → v ≡ run K w (line_events w.scenario (replicate r.times r.general)) → w.scenario ≡ s →
      run K w (line_events s (entries_of (drop i rs))) ≡ u → (v.scenario ≡ s) × (run K v (line_events s (entries_of (drop (i + 1) rs))) ≡ u)
  line_more s w v u rs i r at is same left =
      let is' : v ≡ run K w (line_events s (replicate r.times r.general)) = is ∙ ap (λ (t : Scenario). run K w (line_events t (replicate r.times r.general))) same in
      let m : suc i ≡ i + 1 = omega arith in (
        ap (λ (x : World). x.scenario) is' ∙ (run_scenario K (line_events s (replicate r.times r.general)) w ∙ same),
        ap (λ (k : ℕ). run K v (line_events s (entries_of (drop k rs)))) (sym m)
            ∙ (sym (line_step s w v r (drop (suc i) rs) is')
            ∙ (ap (λ (l : List Repeat). run K w (line_events s (entries_of l))) (sym (drop_at rs i r at)) ∙ left)),
      )

  -- One more name of a round.
  pub names_more : (w v u : World) (names : List ℕ) (i g h : ℕ) → slice_get names i ≡ Some g → h ≡ g → v ≡ run K w (ticks_named h (slice_get w.parts h)) → run K w (names_events K w (drop i names)) ≡ u → run K v (names_events K v (drop (i + 1) names)) ≡ u
  names_more w v u names i g h at same is left =
      let is' : v ≡ run K w (ticks_named g (slice_get w.parts g)) = is ∙ ap (λ (n : ℕ). run K w (ticks_named n (slice_get w.parts n))) same in
      let m : suc i ≡ i + 1 = omega arith in
      ap (λ (k : ℕ). run K v (names_events K v (drop k names))) (sym m)
      ∙ (sym (names_step w v g (drop (suc i) names) is') ∙ (ap (λ (l : List ℕ). run K w (names_events K w l)) (sym (drop_at names i g at)) ∙ left))

  -- One more general.
  pub each_more : (f : Scenario → ℕ → List Event) (n : ℕ) (w v u : World) → v ≡ run K w (each n (f w.scenario)) → u ≡ run K v (f v.scenario n) → u ≡ run K w (each (n + 1) (f w.scenario))
  each_more f n w v u is more =
      let same : v.scenario ≡ w.scenario = ap (λ (x : World). x.scenario) is ∙ run_scenario K (each n (f w.scenario)) w in
      each_step n (f w.scenario) w v u is (more ∙ ap (λ (t : Scenario). run K v (f t n)) same)

  pub each_inside : (es : List Event) (n m : ℕ) (w v : World) → v ≡ run K w es → n < m → m ≡ w.scenario.generals → n < v.scenario.generals
  each_inside es n m w v is lt same =
      let t : v.scenario.generals ≡ w.scenario.generals = ap (λ (x : World). x.scenario.generals) is ∙ ap (λ (x : Scenario). x.generals) (run_scenario K es w) in
      omega arith

  -- Posts, ends and the close, one after another.
  pub wound_by : (w v u t : World) → v ≡ run K w (each w.scenario.generals (λ g. post_of g (program_of w.scenario g))) → u ≡ run K v (each v.scenario.generals (λ g. ticks_of g (program_of v.scenario g))) → t ≡ happen K u Close →
      t ≡ run K w (wound_up w.scenario)
  wound_by w v u t posts ticks close =
      let same : v.scenario ≡ w.scenario = ap (λ (x : World). x.scenario) posts ∙ run_scenario K (each w.scenario.generals (λ g. post_of g (program_of w.scenario g))) w in
      wound_is w.scenario w v u t posts (ticks ∙ ap (λ (s : Scenario). run K v (each s.generals (λ g. ticks_of g (program_of s g)))) same) close

  pub then_wound : (es : List Event) (w v u : World) → v ≡ run K w es → u ≡ run K v (wound_up v.scenario) → u ≡ run K (run K w es) (wound_up w.scenario)
  then_wound es w v u is wound =
      let same : v.scenario ≡ w.scenario = ap (λ (x : World). x.scenario) is ∙ run_scenario K es w in
      wound ∙ ((λ i. run K v (wound_up (same i))) ∙ ap (λ (x : World). run K x (wound_up w.scenario)) is)

  -- Rounds are played one after another.
  pub play_first : (s : Scenario) (schedule : List (List Repeat)) (w : World) (n : ℕ) → n ≡ s.bound + 1 →
      run K w (listed_rounds s (n - 0) (lines_by (drop 0 schedule))) ≡ run K w (listed_rounds s (suc s.bound) (lines_by schedule))
  play_first s schedule w n counted = (let m : n - 0 ≡ suc s.bound = omega arith in ap (λ (k : ℕ). run K w (listed_rounds s k (lines_by schedule))) m)

  pub play_more : (s : Scenario) (n i : ℕ) (schedule : List (List Repeat)) (w u target : World) → i < n → w.scenario ≡ s → u ≡ run K (run K w (line_events w.scenario (entries_of (slice_index_or schedule i [])))) (wound_up w.scenario) →
      run K w (listed_rounds s (n - i) (lines_by (drop i schedule))) ≡ target →
      (u.scenario ≡ s) × (run K u (listed_rounds s (n - (i + 1)) (lines_by (drop (i + 1) schedule))) ≡ target)
  play_more s n i schedule w u target lt same is left =
      let line = entries_of (slice_index_or schedule i []) in
      let v = run K w (line_events s line) in
      let is' : u ≡ run K v (wound_up s) = is ∙ (λ j. run K (run K w (line_events (same j) line)) (wound_up (same j))) in
      let more : n - i ≡ suc (n - (i + 1)) = omega arith in
      let next : suc i ≡ i + 1 = omega arith in
      let scenario : u.scenario ≡ s = ap (λ (x : World). x.scenario) is' ∙ (run_scenario K (wound_up s) v ∙ (run_scenario K (line_events s line) w ∙ same)) in (
        scenario,
        ap (λ (k : ℕ). run K u (listed_rounds s (n - (i + 1)) (lines_by (drop k schedule)))) (sym next)
            ∙ (sym (listed_step s (n - (i + 1)) i schedule w v u refl is')
            ∙ (ap (λ (k : ℕ). run K w (listed_rounds s k (lines_by (drop i schedule)))) (sym more) ∙ left)),
      )

  pub play_last : (s : Scenario) (n i : ℕ) (lines : List (List ℕ)) (w target : World) → n ≤ i → run K w (listed_rounds s (n - i) lines) ≡ target → w ≡ target
  play_last s n i lines w target le left = (let z : 0 ≡ n - i = omega arith in ap (λ (k : ℕ). run K w (listed_rounds s k lines)) z ∙ left)

  pub replay_first : (names : List (List ℕ)) (w : World) (n m : ℕ) → n ≡ m + 1 → run K w (replayed_rounds K w (n - 0) (drop 0 names)) ≡ run K w (replayed_rounds K w (suc m) names)
  replay_first names w n m counted = (let k : n - 0 ≡ suc m = omega arith in ap (λ (i : ℕ). run K w (replayed_rounds K w i names)) k)

  pub replay_more : (n i : ℕ) (names : List (List ℕ)) (w u target : World) → i < n → u ≡ run K (run K w (names_events K w (slice_index_or names i []))) (wound_up w.scenario) → run K w (replayed_rounds K w (n - i) (drop i names)) ≡ target →
      run K u (replayed_rounds K u (n - (i + 1)) (drop (i + 1) names)) ≡ target
  replay_more n i names w u target lt is left =
      let more : n - i ≡ suc (n - (i + 1)) = omega arith in
      let next : suc i ≡ i + 1 = omega arith in
      ap (λ (k : ℕ). run K u (replayed_rounds K u (n - (i + 1)) (drop k names))) (sym next)
      ∙ (sym (replayed_step (n - (i + 1)) i names w (run K w (names_events K w (slice_index_or names i []))) u refl is)
      ∙ (ap (λ (k : ℕ). run K w (replayed_rounds K w k (drop i names))) (sym more) ∙ left))

  pub replay_last : (n i : ℕ) (names : List (List ℕ)) (w target : World) → n ≤ i → run K w (replayed_rounds K w (n - i) names) ≡ target → w ≡ target
  replay_last n i names w target le left = (let z : 0 ≡ n - i = omega arith in ap (λ (k : ℕ). run K w (replayed_rounds K w k names)) z ∙ left)

  -- Repeated entries of one general.
  pub entries_ok : {A E : Type 0} (result : Result A E) (w v : World) (g n m : ℕ) → g < w.scenario.generals → m ≡ n → OnOk result (v ≡ run K w (replicate m (event_of g (program_of w.scenario g)))) →
      OnOk result (v ≡ run K w (line_events w.scenario (replicate n g)))
  entries_ok (Ok x) w v g n m lt same h = h ∙ (ap (λ (k : ℕ). run K w (replicate k (event_of g (program_of w.scenario g)))) same ∙ ap (λ (l : List Event). run K w l) (sym (line_of w.scenario g n lt)))
  entries_ok (Err x) w v g n m lt same h = tt

  -- The events from the opening on are the whole campaign.
  pub played_is : (s : Scenario) (lines : List (List ℕ)) (w v : World) → w ≡ opening K s → v ≡ run K w (listed_rounds w.scenario (suc w.scenario.bound) lines) → v ≡ run K (opening K s) (listed s lines)
  played_is s lines w v opened is = is ∙ ap (λ (x : World). run K x (listed_rounds x.scenario (suc x.scenario.bound) lines)) opened

  pub replayed_is : (s : Scenario) (names : List (List ℕ)) (w v : World) → w ≡ opening K s → v ≡ run K w (replayed_rounds K w (suc w.scenario.bound) names) → v ≡ run K (opening K s) (replayed K s names)
  replayed_is s names w v opened is = is ∙ ap (λ (x : World). run K x (replayed_rounds K x (suc x.scenario.bound) names)) opened

  pub wound_ok : {A E : Type 0} (result : Result A E) (w v u t : World) → v ≡ run K w (each w.scenario.generals (λ g. post_of g (program_of w.scenario g))) → u ≡ run K v (each v.scenario.generals (λ g. ticks_of g (program_of v.scenario g))) →
      OnOk result (t ≡ happen K u Close) → OnOk result (t ≡ run K w (wound_up w.scenario))
  wound_ok (Ok x) w v u t posts ticks close = wound_by w v u t posts ticks close
  wound_ok (Err x) w v u t posts ticks close = tt

  pub then_ok : {A E : Type 0} (result : Result A E) (es : List Event) (w v u : World) → v ≡ run K w es → OnOk result (u ≡ run K v (wound_up v.scenario)) → OnOk result (u ≡ run K (run K w es) (wound_up w.scenario))
  then_ok (Ok x) es w v u is wound = then_wound es w v u is wound
  then_ok (Err x) es w v u is wound = tt

  pub play_next : (s : Scenario) (n i : ℕ) (schedule : List (List Repeat)) (line : List Repeat) (w u target : World) → i < n → w.scenario ≡ s → line ≡ slice_index_or schedule i [] → u ≡ run K (run K w (line_events w.scenario (entries_of line))) (wound_up w.scenario) →
      run K w (listed_rounds s (n - i) (lines_by (drop i schedule))) ≡ target →
      (u.scenario ≡ s) × (run K u (listed_rounds s (n - (i + 1)) (lines_by (drop (i + 1) schedule))) ≡ target)
  play_next s n i schedule line w u target lt same at is left =
      play_more s n i schedule w u target lt same (is ∙ ap (λ (l : List Repeat). run K (run K w (line_events w.scenario (entries_of l))) (wound_up w.scenario)) at) left

  pub replay_next : (n i : ℕ) (names : List (List ℕ)) (line : List ℕ) (w u target : World) → i < n → line ≡ slice_index_or names i [] → u ≡ run K (run K w (names_events K w line)) (wound_up w.scenario) → run K w (replayed_rounds K w (n - i) (drop i names)) ≡ target →
      run K u (replayed_rounds K u (n - (i + 1)) (drop (i + 1) names)) ≡ target
  replay_next n i names line w u target lt at is left = replay_more n i names w u target lt (is ∙ ap (λ (l : List ℕ). run K (run K w (names_events K w l)) (wound_up w.scenario)) at) left

module _ (K : Kind) (good : AreCampaigns K) where
  -- A schedule's events lead to a finished world.
  pub listed_finished : (s : Scenario) (lines : List (List ℕ)) → IsScenario s → IsFinished (run K (opening K s) (listed s lines))
  listed_finished s lines is =
      let complete = listed_complete K s (good s is) lines in
      let same = run_scenario K (listed s lines) (opening K s) in
      record {
        closed = complete.closed ∙ ap (λ (t : Scenario). suc t.bound) (sym same);
        full = punctual_full K s (listed s lines) complete.punctual;
      }

  pub played_finished : (s : Scenario) (lines : List (List ℕ)) (w : World) → IsScenario s → w ≡ run K (opening K s) (listed s lines) → IsFinished w
  played_finished s lines w is same = subst (λ (v : World). IsFinished v) (sym same) (listed_finished s lines is)

  -- A replay's events lead to a finished world.
  pub replayed_finished : (s : Scenario) (names : List (List ℕ)) (w : World) → IsScenario s → w ≡ run K (opening K s) (replayed K s names) → IsFinished w
  replayed_finished s names w is same =
      let complete = replayed_complete K s (good s is) names in
      let scenario = run_scenario K (replayed K s names) (opening K s) in
      subst (λ (v : World). IsFinished v) (sym same) (record {
        closed = complete.closed ∙ ap (λ (t : Scenario). suc t.bound) (sym scenario);
        full = punctual_full K s (replayed K s names) complete.punctual;
      })
