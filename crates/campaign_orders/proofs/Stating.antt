-- States as the code makes them.
use Rattle.std.proofs.Common.{◌≡◌, ℕ, ◌<◌, List, [], ◌∷◌, ◌++◌, length, get_or, inr, sym, ap, subst, ◌∙◌, Result, Ok, Err, Vec}
use Rattle.std.specs.Global.{Global}
use Rattle.std.specs.Prelude.{OnOk}
use Rattle.std.proofs.lemmas.List.{get_or_default, map-append}
use Rattle.round.specs.Letters.{messages}
use Rattle.round.specs.Scenario.{Scenario}
use Rattle.world.specs.Chronicle.{decisions}
use Rattle.world.specs.Kind.{World, opening}
use Rattle.world.specs.Playing.{lists_in}
use Rattle.world.specs.World.{oral_kind}
use Rattle.campaign_orders.specs.declared.stage.Stage.{Stage}
use Rattle.campaign_orders.specs.declared.stage.Stage.TheVariants.{Begun, Open}
use Rattle.campaign_orders.specs.Layers.{State, IsEntered, IsAlikeAt, behind_all, reached}
use Rattle.campaign_orders.specs.Merging.{AreAlike, RoundsAlike}
use Rattle.campaign_orders.specs.OpenRounds.{OpenRound, world_in}
use Rattle.campaign_orders.specs.Outcomes.{oral_outcome}
use Rattle.campaign_orders.specs.Stages.{world_at}
use Rattle.campaign_orders.proofs.Reaching.{way_scenario}

-- A round that is played again from the start.
pub played_open : (s : Scenario) (rows : List (List ℕ)) (names : List ℕ) (w : World) (o : OpenRound) → w ≡ reached (opening oral_kind s) rows names → o ≡ record { start = w; words = w.words; parts = w.parts }
    → world_in rows names o ≡ reached (opening oral_kind s) rows names
played_open s rows names w o played is =
    let r = reached (opening oral_kind s) rows names in
    let begun : World → OpenRound = λ v. record { start = v; words = v.words; parts = v.parts } in
    ap (world_in rows names) (is ∙ ap begun played)
    ∙ ap (λ (c : Scenario). record (reached (opening oral_kind c) rows names) { closed = r.closed; words = r.words; parts = r.parts }) (way_scenario s rows names)

-- A state, given by its fields.
module _ (t : State) (rows : List (List ℕ)) (names : List ℕ) (stage : Stage) (ways : ℕ)
    (seen : record { world = world_at rows names stage; ways = ways; rows = rows; names = names } ≡ t) where
  -- A state in an open round.
  pub open_world : (o : OpenRound) → stage ≡ Open o → world_in t.rows t.names o ≡ t.world
  open_world o is = (λ i. world_in (sym seen i).rows (sym seen i).names o) ∙ (ap (world_at rows names) (sym is) ∙ ap (λ (u : State). u.world) seen)

  -- A state at the start of a round.
  pub begun_world : (s : Scenario) → stage ≡ Begun s → reached (opening oral_kind s) t.rows t.names ≡ t.world
  begun_world s is = (λ i. reached (opening oral_kind s) (sym seen i).rows (sym seen i).names) ∙ (ap (world_at rows names) (sym is) ∙ ap (λ (u : State). u.world) seen)

-- The campaign played again with copies of the state's contents.
pub again_open : (t : State) (s c : Scenario) (rows : List (List ℕ)) (names : List ℕ) (o : OpenRound) → c ≡ s → rows ≡ t.rows → names ≡ t.names → reached (opening oral_kind s) t.rows t.names ≡ t.world
    → world_in rows names o ≡ reached (opening oral_kind c) rows names → world_in t.rows t.names o ≡ t.world
again_open t s c rows names o same a b there is =
    (λ i. world_in (sym a i) (sym b i) o) ∙ (is ∙ ((λ i. reached (opening oral_kind (same i)) (a i) (b i)) ∙ there))

pub again_is : (t : State) (s c : Scenario) (rows : List (List ℕ)) (names : List ℕ) (w : World) → c ≡ s → rows ≡ t.rows → names ≡ t.names → w ≡ reached (opening oral_kind c) rows names → w ≡ reached (opening oral_kind s) t.rows t.names
again_is t s c rows names w same a b is = is ∙ (λ i. reached (opening oral_kind (same i)) (a i) (b i))

-- The same state in another stage.
pub opened_is : (t : State) (rows : List (List ℕ)) (names : List ℕ) (stage later : Stage) (ways : ℕ) (rows' : List (List ℕ)) (names' : List ℕ) → rows' ≡ rows → names' ≡ names → world_at rows' names' later ≡ world_at rows' names' stage
    → record { world = world_at rows names stage; ways = ways; rows = rows; names = names } ≡ t → record { world = world_at rows names later; ways = ways; rows = rows; names = names } ≡ t
opened_is t rows names stage later ways rows' names' a b same seen =
    let e : world_at rows names later ≡ world_at rows names stage = (λ i. world_at (sym a i) (sym b i) later) ∙ (same ∙ (λ i. world_at (a i) (b i) stage)) in
    (λ i. record { world = e i; ways = ways; rows = rows; names = names }) ∙ seen

-- Returns the state at the start of a round.
abbrev state_at : World → ℕ → List (List ℕ) → List ℕ → State
state_at w ways rows names = record { world = w; ways = ways; rows = rows; names = names }

pub begun_same : (s : Scenario) (ways : ℕ) (rows : List (List ℕ)) (names : List ℕ) → names ≡ [] → state_at (reached (opening oral_kind s) rows names) ways rows names ≡ state_at (behind_all (opening oral_kind s) rows) ways rows []
begun_same s ways rows names none = (λ i. state_at (reached (opening oral_kind s) rows (none i)) ways rows (none i))

pub closed_rows : (rows pushed : List (Vec ℕ Global)) (names : Vec ℕ Global) (t : State) → lists_in rows ≡ t.rows → names.items ≡ t.names → pushed ≡ rows ++ names ∷ [] → lists_in pushed ≡ t.rows ++ t.names ∷ []
closed_rows rows pushed names t a b is = ap lists_in is ∙ (map-append (λ (v : Vec ℕ Global). v.items) rows (names ∷ []) ∙ (λ i. a i ++ b i ∷ []))

pub closed_is : (s c : Scenario) (t next : State) (ways : ℕ) (rows : List (List ℕ)) → c ≡ s → ways ≡ t.ways → rows ≡ t.rows ++ t.names ∷ [] → next ≡ record { world = behind_all (opening oral_kind c) rows; ways = ways; rows = rows; names = [] }
    → next ≡ record { world = behind_all (opening oral_kind s) (t.rows ++ t.names ∷ []); ways = t.ways; rows = t.rows ++ t.names ∷ []; names = [] }
closed_is s c t next ways rows same a b is = is ∙ (λ i. record { world = behind_all (opening oral_kind (same i)) (b i); ways = a i; rows = b i; names = [] })

-- The state's outcome.
pub open_outcome : (t : State) (o : OpenRound) → world_in t.rows t.names o ≡ t.world → decisions o.start.scenario (messages o.start.closed) ≡ oral_outcome t.world
open_outcome t o there = ap (λ (c : Scenario). decisions c (messages o.start.closed)) (sym (way_scenario o.start.scenario t.rows t.names)) ∙ ap oral_outcome there

-- Alike states, in open rounds or at the start of a round.
pub open_alike : (t u : State) (o p : OpenRound) → world_in t.rows t.names o ≡ t.world → world_in u.rows u.names p ≡ u.world → o.words ≡ p.words → o.parts ≡ p.parts → RoundsAlike o.start.closed p.start.closed
    → t.world.scenario ≡ u.world.scenario → AreAlike t.world u.world
open_alike t u o p a b words parts closed same =
    let w = world_in t.rows t.names o in
    let v = world_in u.rows u.names p in
    let one : w.scenario ≡ v.scenario = ap (λ (x : World). x.scenario) a ∙ (same ∙ sym (ap (λ (x : World). x.scenario) b)) in
    subst (λ (x : World). AreAlike x u.world) a (subst (λ (x : World). AreAlike (world_in t.rows t.names o) x) b (record { scenario = one; words = words; parts = parts; closed = closed }))

pub begun_alike : (t u : State) (w v : World) → w ≡ t.world → v ≡ u.world → (w.scenario ≡ v.scenario → AreAlike w v) → t.world.scenario ≡ u.world.scenario → AreAlike t.world u.world
begun_alike t u w v a b alike =
    subst (λ (x : World). x.scenario ≡ u.world.scenario → AreAlike x u.world) a (subst (λ (x : World). w.scenario ≡ x.scenario → AreAlike w x) b alike)

-- A state that is found at an index.
pub alike_at : (states : List State) (t was : State) (place : ℕ) → place < length states → was ≡ get_or states place was → (was.world.scenario ≡ t.world.scenario → AreAlike was.world t.world) → IsAlikeAt states t place
alike_at states t was place lt at alike = (
  lt,
  λ d. (let e : was ≡ get_or states place d = at ∙ get_or_default states place was d lt in subst (λ (u : State). u.world.scenario ≡ t.world.scenario → AreAlike u.world t.world) e alike),
)

-- A state that is appended.
pub enters_behind : {A E : Type 0} (result : Result A E) (states : List State) (t : State) (new : List State) → OnOk result (new ≡ states ++ t ∷ []) → OnOk result (IsEntered states t new)
enters_behind (Ok x) states t new e = inr e
enters_behind (Err x) states t new e = tt
