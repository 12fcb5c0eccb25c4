-- How many ticks a general takes until he has made one more access.
use Rattle.std.proofs.Common.{◌≡◌, ℕ, zero, suc, ◌+◌, ◌-◌, ◌≤◌, List, [], length, true, false, refl, sym, ap, subst, ◌∙◌, Option, Some, None, Ok, Result, arith, zero-add}
use Rattle.std.specs.Prelude.{slice_get, replicate}
use Rattle.board.specs.Board.{IsBoard}
use Rattle.round.specs.Activation.{Activation, Turn, Goes, Asks, Ended, turn}
use Rattle.round.specs.Running.{Pauses}
use Rattle.round.specs.Runs.{Onward, Runs}
use Rattle.round.specs.Scenario.{Scenario, IsScenario}
use Rattle.round.proofs.Going.{ended_over}
use Rattle.world.specs.declared.event.Event.TheVariants.{Tick}
use Rattle.world.specs.declared.part.Progress.{Progress}
use Rattle.world.specs.declared.part.Progress.TheVariants.{Acting, Silent, Posted}
use Rattle.world.specs.Campaigns.{AreCampaigns}
use Rattle.world.specs.Kind.{Kind, World, happen, run}
use Rattle.world.specs.KindHeld.{AheadTo, IsReached}
use Rattle.world.specs.KindLists.{further_turns, until_access, ticks_named}
use Rattle.world.specs.Playing.{IsStill, program_length}
use Rattle.world.proofs.Due.{IsDue}
use Rattle.world.proofs.Lasting.{IsOnTime}
use Rattle.world.proofs.Listing.{set-here}
use Rattle.world.proofs.Ticking.{runs_until, one_left, over_past, named_turn}
use Rattle.world.proofs.Untrapped.{held}
use Rattle.campaign_orders.specs.Orders.{asks_or, asks_within, will_ask}
use Rattle.campaign_orders.specs.Planning.{IsStepTo}
use Rattle.campaign_orders.proofs.Walking.{silent}

-- At most as many ticks are taken as the limit allows.
pub ahead_few : (limit taken : ℕ) (parts : List Progress) (g : ℕ) (o : Option Progress) (new : List Progress) → AheadTo limit taken parts g o new → taken ≤ limit
ahead_few limit taken parts g None new h = (let e = h.0 in omega arith)
ahead_few limit taken parts g (Some (Acting a)) new (b, way, le, pause, same) = omega arith
ahead_few limit taken parts g (Some Silent) new h = (let e = h.0 in omega arith)
ahead_few limit taken parts g (Some Posted) new h = (let e = h.0 in omega arith)

-- A general without an activation makes no request.
pub idle_asks : (o : Option Progress) → program_length o ≡ None → will_ask o ≡ false
idle_asks None e = refl
idle_asks (Some (Acting a)) e = absurd (let c : Some (length a.program) ≡ None = e in cc)
idle_asks (Some Silent) e = refl
idle_asks (Some Posted) e = refl

asks_by : (n : ℕ) (a b : Activation) (o : Turn) (fuel : ℕ) → ((c : Activation) → Runs n c [] b → asks_within (n + fuel) c ≡ asks_within fuel b) → Onward (Runs n) o [] b → asks_or (asks_within (n + fuel)) o ≡ asks_within fuel b
asks_by n a b (Goes c) fuel again way = again c way
asks_by n a b (Asks q f) fuel again way = absurd way
asks_by n a b Ended fuel again way = absurd way

runs_asks : (n : ℕ) (a b : Activation) (fuel : ℕ) → Runs n a [] b → asks_within (n + fuel) a ≡ asks_within fuel b
runs_asks zero a b fuel way = ap (λ (k : ℕ). asks_within k a) (zero-add fuel) ∙ ap (λ (c : Activation). asks_within fuel c) way.1
runs_asks (suc n) a b fuel way =
    let y : suc n + fuel ≡ suc (n + fuel) = omega arith in
    ap (λ (k : ℕ). asks_within k a) y ∙ asks_by n a b (turn a) fuel (λ c w. runs_asks n c b fuel w) way

-- A general whose activation has ended without an access makes none.
pub still_asks : (w v : World) (g most taken : ℕ) (o : Option Progress) → slice_get w.parts g ≡ o → AheadTo most taken w.parts g o v.parts → IsStill (slice_get v.parts g) → will_ask o ≡ false
still_asks w v g most taken None at far still = refl
still_asks w v g most taken (Some (Acting a)) at (b, way, le, pause, new) still =
    let here : slice_get v.parts g ≡ Some (Acting b) = ap (λ (l : List Progress). slice_get l g) new ∙ set-here w.parts g (Acting b) (Acting a) at in
    silent (length a.program) taken a b (subst (λ (p : Option Progress). IsStill p) here still) way
still_asks w v g most taken (Some Silent) at far still = refl
still_asks w v g most taken (Some Posted) at far still = refl

ticks_many : (n g : ℕ) → length (replicate n (Tick g)) ≡ n
ticks_many zero g = refl
ticks_many (suc n) g = ap suc (ticks_many n g)

-- Otherwise he makes a request with one more tick.
abbrev pub AsksAt : ℕ → ℕ → Option Progress → Type 0
AsksAt taken g o = (will_ask o ≡ true) × (length (ticks_named g o) ≡ taken + 1)

asks_then : (taken : ℕ) (g : ℕ) (a b : Activation) (left : ℕ) → Runs taken a [] b → taken + suc left ≡ length a.program → (t : Turn) → turn b ≡ t → asks_or (asks_within left) t ≡ true → further_turns (until_access left) t ≡ 1 → AsksAt taken g (Some (Acting a))
asks_then taken g a b left way is t e asks one =
    let count : until_access (length a.program) a ≡ taken + 1 =
    ap (λ (k : ℕ). until_access k a) (sym is) ∙ (runs_until taken a b (suc left) way ∙ ap (λ (u : Turn). taken + further_turns (until_access left) u) e ∙ ap (λ (k : ℕ). taken + k) one) in (
      ap (λ (k : ℕ). asks_within k a) (sym is) ∙ (runs_asks taken a b (suc left) way ∙ (ap (asks_or (asks_within left)) e ∙ asks)),
      ticks_many (until_access (length a.program) a) g ∙ count,
    )

module _ (K : Kind) where
  pub asks_on : (s : Scenario) (w : World) (g taken : ℕ) (a b : Activation) → IsBoard w.words → IsDue s g a → Runs taken a [] b → (IsStill (Some (Acting b)) → ⊥) → (t : Turn) → turn b ≡ t → Pauses (length a.program) b t → AsksAt taken g (Some (Acting a))
  asks_on s w g taken a b board d way on (Goes c) e pause = absurd (over_past s g taken a b c board d way e pause)
  asks_on s w g taken a b board d way on (Asks q f) e pause =
      let l = one_left s g taken a b w.words board d way (Asks q f) e (λ h. cc) in
      asks_then taken g a b (length a.program - taken - 1) way (omega arith) (Asks q f) e refl refl
  asks_on s w g taken a b board d way on Ended e pause = absurd (on (ended_over b e))

  asks_more : (s : Scenario) (w v : World) (g most taken : ℕ) → IsOnTime K s w → (o : Option Progress) → slice_get w.parts g ≡ o → program_length o ≡ Some most → AheadTo most taken w.parts g o v.parts → (IsStill (slice_get v.parts g) → ⊥) →
      AsksAt taken g o
  asks_more s w v g most taken t None at is far on = absurd (let f : None ≡ Some most = is in cc)
  asks_more s w v g most taken t (Some (Acting a)) at is (b, way, le, pause, new) on =
      let same : length a.program ≡ most = (let f : Some (length a.program) ≡ Some most = is in cc) in
      let here : slice_get v.parts g ≡ Some (Acting b) = ap (λ (l : List Progress). slice_get l g) new ∙ set-here w.parts g (Acting b) (Acting a) at in
      asks_on s w g taken a b t.kept.board (t.due g (Acting a) at) way (λ h. on (subst (λ (p : Option Progress). IsStill p) (sym here) h)) (turn b) refl (subst (λ (n : ℕ). Pauses n b (turn b)) (sym same) pause)
  asks_more s w v g most taken t (Some Silent) at is far on = absurd (let f : None ≡ Some most = is in cc)
  asks_more s w v g most taken t (Some Posted) at is far on = absurd (let f : None ≡ Some most = is in cc)

module _ (K : Kind) (good : AreCampaigns K) where
  pub asks_there : (w v : World) (s : Scenario) (ps : List Progress) (g most taken : ℕ) → s ≡ w.scenario → IsScenario s → IsReached K w → ps ≡ w.parts → Some most ≡ program_length (slice_get ps g) →
      AheadTo most taken w.parts g (slice_get w.parts g) v.parts → (IsStill (slice_get v.parts g) → ⊥) → AsksAt taken g (slice_get w.parts g)
  asks_there w v s ps g most taken same is h parts most_is far on =
      let inside : IsScenario w.scenario = subst (λ (t : Scenario). IsScenario t) same is in
      let timely : IsOnTime K w.scenario w = subst (λ (x : World). IsOnTime K w.scenario x) h.1 ((held K w.scenario h.0 (good w.scenario inside)).timely) in
      asks_more K w.scenario w v g most taken timely (slice_get w.parts g) refl (ap (λ (l : List Progress). program_length (slice_get l g)) (sym parts) ∙ sym most_is) far on

  -- The same with the numbers and parts as the code has them.
  pub step_taken : (w v u : World) (s : Scenario) (ps qs : List Progress) (g one two three most limit taken : ℕ) → one ≡ g → two ≡ g → three ≡ g → limit ≡ most → s ≡ w.scenario → IsScenario s → IsReached K w → ps ≡ w.parts → qs ≡ v.parts →
      Some most ≡ program_length (slice_get ps g) → AheadTo limit taken w.parts one (slice_get w.parts one) v.parts → v ≡ run K w (replicate taken (Tick one)) → (IsStill (slice_get qs two) → ⊥) → u ≡ happen K v (Tick three) →
      IsStepTo K w g u (Some (taken + 1))
  step_taken w v u s ps qs g one two three most limit taken e1 e2 e3 e4 same is h parts later most_is far ahead on done =
      let far' = subst (λ (n : ℕ). AheadTo most taken w.parts n (slice_get w.parts n) v.parts) e1 (subst (λ (n : ℕ). AheadTo n taken w.parts one (slice_get w.parts one) v.parts) e4 far) in
      let on' : IsStill (slice_get v.parts g) → ⊥ = (λ k. on (subst (λ (n : ℕ). IsStill (slice_get qs n)) (sym e2) (subst (λ (l : List Progress). IsStill (slice_get l g)) (sym later) k))) in
      let ahead' : v ≡ run K w (replicate taken (Tick g)) = ahead ∙ ap (λ (n : ℕ). run K w (replicate taken (Tick n))) e1 in
      let done' : u ≡ happen K v (Tick g) = done ∙ ap (λ (n : ℕ). happen K v (Tick n)) e3 in
      let fine : Result (Unit {0}) (Unit {0}) = Ok tt in
      let asks = asks_there w v s ps g most taken same is h parts most_is far' on' in
      (asks.0, sym asks.1, named_turn K good fine w v u s ps g most taken same is h parts most_is far' ahead' done')

pub step_still : (w v : World) (qs : List Progress) (g one two limit taken : ℕ) → one ≡ g → two ≡ g → qs ≡ v.parts → AheadTo limit taken w.parts one (slice_get w.parts one) v.parts → IsStill (slice_get qs two) → will_ask (slice_get w.parts g) ≡ false
step_still w v qs g one two limit taken e1 e2 later far still =
    let far' = subst (λ (n : ℕ). AheadTo limit taken w.parts n (slice_get w.parts n) v.parts) e1 far in
    let still' = subst (λ (n : ℕ). IsStill (slice_get v.parts n)) e2 (subst (λ (l : List Progress). IsStill (slice_get l two)) later still) in
    still_asks w v g limit taken (slice_get w.parts g) refl far' still'
