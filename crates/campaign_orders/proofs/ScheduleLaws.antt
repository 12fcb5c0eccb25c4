-- Schedules for orders of accesses.
use Rattle.std.proofs.Common.{◌≡◌, ℕ, zero, suc, ◌+◌, ◌<◌, List, [], ◌∷◌, ◌++◌, length, map, true, false, refl, sym, ap, subst, ◌∙◌, Option, Some, None, append_assoc, arith}
use Rattle.std.specs.Prelude.{slice_get, filter, nat_lt, replicate}
use Rattle.std.proofs.lemmas.Bool.{lt-ltb}
use Rattle.insn.specs.declared.insn.Insn.{Insn}
use Rattle.round.specs.Scenario.{Scenario, IsScenario, program_of}
use Rattle.world.specs.declared.event.Event.{Event}
use Rattle.world.specs.declared.event.Event.TheVariants.{Tick}
use Rattle.world.specs.declared.part.Progress.{Progress}
use Rattle.world.specs.declared.part.Progress.TheVariants.{Acting, Silent, Posted}
use Rattle.world.specs.Kind.{Kind, World, opening, run}
use Rattle.world.specs.Campaigns.{IsCampaign, AreCampaigns}
use Rattle.world.specs.KindLists.{ticks_named, names_events, wound_up, event_of, listed_rounds, listed, replayed_rounds, replayed, until_access}
use Rattle.world.specs.Schedules.{entries_of, lines_by}
use Rattle.world.proofs.Kept.{Fits}
use Rattle.world.proofs.Lasting.{IsOnTime, moves_due, named_moves, names_moves, opening_due, round_done}
use Rattle.campaign_orders.specs.Orders.{will_ask, past, behind, order_of, IsOrder}
use Rattle.campaign_orders.specs.Schedules.{entries_from, schedule_from, OrdersAreSchedules}
use Rattle.campaign_orders.specs.Walks.{IsWalk, AreWalks}
use Rattle.campaign_orders.proofs.Deciding.{to_steps, again}
use Rattle.campaign_orders.proofs.Leading.{from_walks, replay_completes}

entries : Scenario → List ℕ → List Event
entries s line = map (λ g. event_of g (program_of s g)) (filter (λ g. nat_lt g s.generals) line)

entries_many : (s : Scenario) (n g : ℕ) (line : List ℕ) (program : List Insn) → g < s.generals → program_of s g ≡ Some program → entries s (replicate n g ++ line) ≡ replicate n (Tick g) ++ entries s line
unfolding entries
entries_many s zero g line program lt e = refl
entries_many s (suc n) g line program lt e =
    let l : nat_lt g s.generals ≡ true = lt-ltb g s.generals lt in
    rw l (λ i. event_of g (e i) ∷ entries_many s n g line program lt e i)

ticks_again : (n g : ℕ) → replicate (length (replicate n (Tick g))) (Tick g) ≡ replicate n (Tick g)
ticks_again zero g = refl
ticks_again (suc n) g = ap (λ es. Tick g ∷ es) (ticks_again n g)

named_again : (g : ℕ) (o : Option Progress) → replicate (length (ticks_named g o)) (Tick g) ≡ ticks_named g o
named_again g None = refl
named_again g (Some (Acting a)) = ticks_again (until_access (length a.program) a) g
named_again g (Some Silent) = refl
named_again g (Some Posted) = refl

module _ (K : Kind) where
  -- A general who makes a further access is one with a program.
  asker_has : (s : Scenario) (w : World) → IsOnTime K s w → (g : ℕ) (o : Option Progress) → slice_get w.parts g ≡ o → will_ask o ≡ true → (g < s.generals) × (program : List Insn) × (program_of s g ≡ Some program)
  asker_has s w d g None e y = absurd (let f : false ≡ true = y in cc)
  asker_has s w d g (Some (Acting a)) e y =
      let k = d.kept.parts g (Acting a) e in
      let A : Scenario → Type 0 = λ t. (g < t.generals) × Fits (program_of t g) (Acting a) in
      let m = subst A d.scenario k in
      let b = by (program_of s g) refl m.1 in (m.0, b.0, b.1)
    where
      by : (o : Option (List Insn)) → program_of s g ≡ o → Fits o (Acting a) → (program : List Insn) × (program_of s g ≡ Some program)
      by None e f = absurd f
      by (Some program) e f = (program, e)
  asker_has s w d g (Some Silent) e y = absurd (let f : false ≡ true = y in cc)
  asker_has s w d g (Some Posted) e y = absurd (let f : false ≡ true = y in cc)

  line_is : (s : Scenario) (names : List ℕ) (w : World) → IsOnTime K s w → IsWalk K w names → entries s (entries_of (entries_from K w names)) ≡ names_events K w names
  unfolding entries
  line_is s [] w d h = refl
  line_is s (g ∷ names) w d h =
      let ticks = ticks_named g (slice_get w.parts g) in
      let who = asker_has s w d g (slice_get w.parts g) refl h.0 in
      let more = line_is s names (past K w g) (moves_due K s ticks w (named_moves g (slice_get w.parts g)) d) h.1 in
      entries_many s (length ticks) g (entries_of (entries_from K (past K w g) names)) who.1 who.0 who.2 ∙ (λ i. named_again g (slice_get w.parts g) i ++ more i)

  lines_are : (s : Scenario) → IsCampaign K s → (k : ℕ) (names : List (List ℕ)) (w : World) → IsOnTime K s w → length w.closed + k ≡ suc s.bound → AreWalks K w names → listed_rounds s k (lines_by (schedule_from K w names)) ≡ replayed_rounds K w k names
  unfolding entries
  lines_are s is zero names w d e h = refl
  lines_are s is (suc k) [] w d e h =
      let A : Scenario → Type 0 = λ t. (IsOnTime K s (run K w (wound_up t))) × (length (run K w (wound_up t)).closed ≡ suc (length w.closed)) in
      let done = round_done K s is [] w tt d (omega arith) in
      let next = subst A (sym d.scenario) (done.due, done.one_more) in
      λ i. wound_up (sym d.scenario i) ++ lines_are s is k [] (behind K w []) next.0 (let n = next.1 in omega arith) tt i
  lines_are s is (suc k) (line ∷ names) w d e h =
      let es = names_events K w line in
      let A : Scenario → Type 0 = λ t. (IsOnTime K s (run K w (es ++ wound_up t))) × (length (run K w (es ++ wound_up t)).closed ≡ suc (length w.closed)) in
      let done = round_done K s is es w (names_moves K line w) d (omega arith) in
      let next = subst A (sym d.scenario) (done.due, done.one_more) in
      let more = lines_are s is k names (behind K w line) next.0 (let n = next.1 in omega arith) h.1 in
      (λ i. line_is s line w d h.0 i ++ (wound_up (sym d.scenario i) ++ more i)) ∙ sym (append_assoc es (wound_up w.scenario) (replayed_rounds K (behind K w line) k names))

  module _ (good : AreCampaigns K) where
    pub walks_played : (s : Scenario) (names : List (List ℕ)) → IsScenario s → AreWalks K (opening K s) names → listed s (lines_by (schedule_from K (opening K s) names)) ≡ replayed K s names
    walks_played s names is h = lines_are s (good s is) (suc s.bound) names (opening K s) (opening_due K s (good s is)) (omega arith) h

    pub orders_walk : (s : Scenario) (order : List (List ℕ)) → IsScenario s → IsOrder K s order → AreWalks K (opening K s) order
    orders_walk s order is o = from_walks K (suc s.bound) order (opening K s) (to_steps K good s order is o)

    pub orders_are_schedules : OrdersAreSchedules K
    orders_are_schedules = record {
      played = walks_played;
      completes = λ s names is h. replay_completes K s names (good s is) h;
      orders = orders_walk;
      again = λ s events is c.
          let order = order_of K s events in
          let walks = orders_walk s order is (events, c, refl) in
          ap (λ (es : List Event). run K (opening K s) es) (walks_played s order is walks) ∙ again K good s events is c;
    }
