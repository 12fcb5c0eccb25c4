-- Many ticks of one general, and the ticks up to an access that is named.
use Rattle.std.proofs.Common.{◌≡◌, ℕ, zero, suc, ◌+◌, ◌-◌, ◌≤◌, List, [], length, refl, sym, ap, subst, ◌∙◌, Option, Some, None, arith, zero-add}
use Rattle.std.specs.Prelude.{slice_get, replicate}
use Rattle.board.specs.Board.{IsBoard, reply}
use Rattle.board.proofs.Serving.{reply_fits}
use Rattle.world.specs.declared.event.Event.{Event}
use Rattle.world.specs.declared.event.Event.TheVariants.{Tick}
use Rattle.round.specs.Scenario.{Scenario}
use Rattle.round.specs.Activation.{Activation, Turn, Goes, Asks, Ended, turn}
use Rattle.world.specs.Part.{Progress, Acting, Silent, Posted}
use Rattle.world.specs.Kind.{Kind, World, served, ticked, happen, run}
use Rattle.round.specs.Runs.{Onward, Runs}
use Rattle.world.specs.KindLists.{further_turns, until_access, ticks_named}
use Rattle.round.specs.Running.{Pauses}
use Rattle.std.specs.Prelude.{OnOk}
use Rattle.std.proofs.Common.{Result, Ok, Err}
use Rattle.round.specs.Scenario.{IsScenario}
use Rattle.world.specs.KindHeld.{AheadTo, IsReached}
use Rattle.world.proofs.Lasting.{IsOnTime}
use Rattle.world.proofs.Untrapped.{held}
use Rattle.world.proofs.Listing.{set-here}
use Rattle.world.specs.Playing.{IsStill, program_length}
use Rattle.round.proofs.Going.{turn_within, over_ended, ended_over}
use Rattle.round.proofs.Stepping.{runs_steps, turn_counts, CountsTurn}
use Rattle.world.proofs.Due.{IsDue, due_few, due_lasts}
use Rattle.world.specs.Campaigns.{AreCampaigns}

-- Turns without an access keep an activation safe.
due_by : (s : Scenario) (g n : ℕ) (a b : Activation) → IsDue s g a → (o : Turn) → turn a ≡ o → ((c : Activation) → IsDue s g c → Runs n c [] b → IsDue s g b) → Onward (Runs n) o [] b → IsDue s g b
due_by s g n a b d (Goes c) e again way = again c ((due_lasts s).goes g a c d e) way
due_by s g n a b d (Asks q f) e again way = absurd way
due_by s g n a b d Ended e again way = absurd way

pub runs_due : (s : Scenario) (g n : ℕ) (a b : Activation) → IsDue s g a → Runs n a [] b → IsDue s g b
runs_due s g zero a b d way = (let A : Activation → Type 0 = λ c. IsDue s g c in subst A way.1 d)
runs_due s g (suc n) a b d way = due_by s g n a b d (turn a) refl (λ c dc w. runs_due s g n c b dc w) way

-- Turns without an access come before the access.
until_by : (n : ℕ) (a b : Activation) (o : Turn) (fuel : ℕ) → ((c : Activation) → Runs n c [] b → until_access (n + fuel) c ≡ n + until_access fuel b) → Onward (Runs n) o [] b →
    further_turns (until_access (n + fuel)) o ≡ suc (n + until_access fuel b)
until_by n a b (Goes c) fuel again way = ap suc (again c way)
until_by n a b (Asks q f) fuel again way = absurd way
until_by n a b Ended fuel again way = absurd way

pub runs_until : (n : ℕ) (a b : Activation) (fuel : ℕ) → Runs n a [] b → until_access (n + fuel) a ≡ n + until_access fuel b
runs_until zero a b fuel way =
    ap (λ (k : ℕ). until_access k a) (zero-add fuel) ∙ (ap (λ (c : Activation). until_access fuel c) way.1 ∙ sym (zero-add (until_access fuel b)))
runs_until (suc n) a b fuel way =
    let y : suc n + fuel ≡ suc (n + fuel) = omega arith in
    let z : suc (n + until_access fuel b) ≡ suc n + until_access fuel b = omega arith in
    ap (λ (k : ℕ). until_access k a) y ∙ (until_by n a b (turn a) fuel (λ c w. runs_until n c b fuel w) way ∙ z)

-- Two activations of one program have the same limit of steps.
few_in : (s : Scenario) (g : ℕ) (a c : Activation) → IsDue s g a → IsDue s g c → c.state.steps ≤ length a.program
few_in s g a c d e =
    let same : c.program ≡ a.program = (let f : Some c.program ≡ Some a.program = sym e.program ∙ d.program in cc) in
    (let l = due_few s g c e in let m = ap length same in omega arith)

-- If an activation goes on or makes a request, it has a step left.
pub one_left : (s : Scenario) (g n : ℕ) (a b : Activation) (words : List ℕ) → IsBoard words → IsDue s g a → Runs n a [] b → (o : Turn) → turn b ≡ o → (o ≡ Ended → ⊥) → suc n ≤ length a.program
one_left s g n a b words board d way (Goes c) e on =
    let due = (due_lasts s).goes g b c (runs_due s g n a b d way) e in
    let one : c.state.steps ≡ b.state.steps + 1 = (let A : Turn → Type 0 = λ o. CountsTurn b o in subst A e (turn_counts b)) in
    let so = runs_steps n a [] b way in
    let few = few_in s g a c d due in omega arith
one_left s g n a b words board d way (Asks q f) e on =
    let r = reply words q in
    let due = (due_lasts s).asks g b q f r (runs_due s g n a b d way) e (reply_fits words q board (turn_within b q f e)) in
    let one : (f r).state.steps ≡ b.state.steps + 1 = (let A : Turn → Type 0 = λ o. CountsTurn b o in (subst A e (turn_counts b)) r) in
    let so = runs_steps n a [] b way in
    let few = few_in s g a (f r) d due in omega arith
one_left s g n a b words board d way Ended e on = absurd (on refl)

-- So an activation takes no more steps than its program has instructions.
pub over_past : (s : Scenario) (g n : ℕ) (a b c : Activation) → {words : List ℕ} → IsBoard words → IsDue s g a → Runs n a [] b → turn b ≡ Goes c → length a.program ≤ b.state.steps → ⊥
over_past s g n a b c board d way e p =
    let due = (due_lasts s).goes g b c (runs_due s g n a b d way) e in
    let one : c.state.steps ≡ b.state.steps + 1 = (let A : Turn → Type 0 = λ o. CountsTurn b o in subst A e (turn_counts b)) in
    let few = few_in s g a c d due in omega arith

module _ (K : Kind) where
  -- Repeated events can be split into two parts.
  pub events_add : (m n : ℕ) (w : World) (e : Event) → run K w (replicate (m + n) e) ≡ run K (run K w (replicate m e)) (replicate n e)
  events_add zero n w e = ap (λ (k : ℕ). run K w (replicate k e)) (zero-add n)
  events_add (suc m) n w e = (let c : suc m + n ≡ suc (m + n) = omega arith in ap (λ (k : ℕ). run K w (replicate k e)) c ∙ events_add m n (happen K w e) e)

  -- Ticks of an activation that has ended, or of a general without one, change nothing.
  pub still_tick : (w : World) (g : ℕ) (o : Option Progress) → slice_get w.parts g ≡ o → IsStill o → happen K w (Tick g) ≡ w
  still_tick w g None e h = ap (λ (p : Option Progress). ticked w g p) e
  still_tick w g (Some (Acting a)) e h = ap (λ (p : Option Progress). ticked w g p) e ∙ ap (λ (t : Turn). served w g t) (over_ended a h)
  still_tick w g (Some Silent) e h = ap (λ (p : Option Progress). ticked w g p) e
  still_tick w g (Some Posted) e h = ap (λ (p : Option Progress). ticked w g p) e

  pub still_ticks : (n : ℕ) (w : World) (g : ℕ) → IsStill (slice_get w.parts g) → run K w (replicate n (Tick g)) ≡ w
  still_ticks zero w g h = refl
  still_ticks (suc n) w g h =
      let one : happen K w (Tick g) ≡ w = still_tick w g (slice_get w.parts g) refl h in
      ap (λ (v : World). run K v (replicate n (Tick g))) one ∙ still_ticks n w g h

  -- Some of the remaining ticks are taken.
  pub some_ahead : (left taken rest : ℕ) (w v u : World) (e : Event) → taken + rest ≡ left → v ≡ run K w (replicate taken e) → run K w (replicate left e) ≡ run K u [] → run K v (replicate rest e) ≡ u
  some_ahead left taken rest w v u e is ahead all =
      ap (λ (x : World). run K x (replicate rest e)) ahead ∙ (sym (events_add taken rest w e) ∙ (ap (λ (k : ℕ). run K w (replicate k e)) is ∙ all))

  pub one_less : (left rest : ℕ) (w v u : World) (e : Event) → suc rest ≡ left → v ≡ happen K w e → run K w (replicate left e) ≡ u → run K v (replicate rest e) ≡ u
  one_less left rest w v u e is tick all = ap (λ (x : World). run K x (replicate rest e)) tick ∙ (ap (λ (k : ℕ). run K w (replicate k e)) is ∙ all)

  -- A last tick makes the request, or changes nothing.
  last_by : (s : Scenario) (w : World) (g n fuel : ℕ) (a b : Activation) → IsBoard w.words → IsDue s g a → Runs n a [] b → n + fuel ≡ length a.program →
      (v : World) → slice_get v.parts g ≡ Some (Acting b) → (o : Turn) → turn b ≡ o → Pauses (length a.program) b o → run K v (replicate (until_access fuel b) (Tick g)) ≡ happen K v (Tick g)
  last_by s w g n zero a b board d way is v at (Goes c) e p = absurd (over_past s g n a b c board d way e p)
  last_by s w g n (suc fuel) a b board d way is v at (Goes c) e p = absurd (over_past s g n a b c board d way e p)
  last_by s w g n zero a b board d way is v at (Asks q f) e p = absurd (let l = one_left s g n a b w.words board d way (Asks q f) e (λ h. cc) in omega arith)
  last_by s w g n (suc fuel) a b board d way is v at (Asks q f) e p = ap (λ (t : Turn). run K v (replicate (further_turns (until_access fuel) t) (Tick g))) e
  last_by s w g n zero a b board d way is v at Ended e p =
      sym (still_tick v g (Some (Acting b)) at (ended_over b e))
  last_by s w g n (suc fuel) a b board d way is v at Ended e p =
      ap (λ (t : Turn). run K v (replicate (further_turns (until_access fuel) t) (Tick g))) e ∙ sym (still_tick v g (Some (Acting b)) at (ended_over b e))

  -- The ticks up to a named access.
  pub named_is : (s : Scenario) (w v : World) (g n : ℕ) (a b : Activation) → IsBoard w.words → IsDue s g a → slice_get w.parts g ≡ Some (Acting a) → slice_get v.parts g ≡ Some (Acting b) →
      v ≡ run K w (replicate n (Tick g)) → Runs n a [] b → n ≤ length a.program → Pauses (length a.program) b (turn b) → happen K v (Tick g) ≡ run K w (ticks_named g (slice_get w.parts g))
  named_is s w v g n a b board d at here is way le pause =
      let m : (f : ℕ) × (n + f ≡ length a.program) = (length a.program - n, omega arith) in
      let all : until_access (length a.program) a ≡ n + until_access m.0 b = ap (λ (k : ℕ). until_access k a) (sym m.1) ∙ runs_until n a b m.0 way in
      sym (last_by s w g n m.0 a b board d way m.1 v here (turn b) refl pause)
      ∙ (ap (λ (x : World). run K x (replicate (until_access m.0 b) (Tick g))) is
      ∙ (sym (events_add n (until_access m.0 b) w (Tick g))
      ∙ (ap (λ (k : ℕ). run K w (replicate k (Tick g))) (sym all)
      ∙ ap (λ (o : Option Progress). run K w (ticks_named g o)) (sym at))))

  -- They are the turns up to the next request or the end, and one more.
  named_by : (s : Scenario) (w v : World) (g most taken : ℕ) → IsOnTime K s w → (o : Option Progress) → slice_get w.parts g ≡ o → program_length o ≡ Some most → AheadTo most taken w.parts g o v.parts → v ≡ run K w (replicate taken (Tick g)) →
      happen K v (Tick g) ≡ run K w (ticks_named g (slice_get w.parts g))
  named_by s w v g most taken t None at is far ahead = absurd (let f : None ≡ Some most = is in cc)
  named_by s w v g most taken t (Some (Acting a)) at is (b, way, le, pause, new) ahead =
      let same : length a.program ≡ most = (let f : Some (length a.program) ≡ Some most = is in cc) in
      let here : slice_get v.parts g ≡ Some (Acting b) = ap (λ (l : List Progress). slice_get l g) new ∙ set-here w.parts g (Acting b) (Acting a) at in
      named_is s w v g taken a b t.kept.board (t.due g (Acting a) at) at here ahead way (omega arith) (subst (λ (n : ℕ). Pauses n b (turn b)) (sym same) pause)
  named_by s w v g most taken t (Some Silent) at is far ahead = absurd (let f : None ≡ Some most = is in cc)
  named_by s w v g most taken t (Some Posted) at is far ahead = absurd (let f : None ≡ Some most = is in cc)

module _ (K : Kind) (good : AreCampaigns K) where
  pub named_turn : {A E : Type 0} (result : Result A E) (w v u : World) (s : Scenario) (ps : List Progress) (g most taken : ℕ) → s ≡ w.scenario → IsScenario s → IsReached K w → ps ≡ w.parts →
      Some most ≡ program_length (slice_get ps g) → AheadTo most taken w.parts g (slice_get w.parts g) v.parts → v ≡ run K w (replicate taken (Tick g)) → OnOk result (u ≡ happen K v (Tick g)) →
      OnOk result (u ≡ run K w (ticks_named g (slice_get w.parts g)))
  named_turn (Ok x) w v u s ps g most taken same is h parts most_is far ahead done =
      let inside : IsScenario w.scenario = subst (λ (t : Scenario). IsScenario t) same is in
      let timely : IsOnTime K w.scenario w = subst (λ (x : World). IsOnTime K w.scenario x) h.1 ((held K w.scenario h.0 (good w.scenario inside)).timely) in
      done ∙ named_by K w.scenario w v g most taken timely (slice_get w.parts g) refl (ap (λ (l : List Progress). program_length (slice_get l g)) (sym parts) ∙ sym most_is) far ahead
  named_turn (Err x) w v u s ps g most taken same is h parts most_is far ahead done = tt
