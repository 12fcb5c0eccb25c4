-- The generals who send a tree's lieutenant orders about a label, in order.
use Rattle.std.proofs.Common.{◌≡◌, ◌≢◌, ℕ, ◌+◌, ◌-◌, ◌*◌, ◌<◌, ◌≤◌, List, ◌∷◌, length, take, get_or, Option, Some, Bool, true, false, refl, sym, ap, ◌∙◌, ⊎_elim, arith}
use Rattle.std.specs.Prelude.{slice_get, slice_index, nat_lt, if◌then◌else◌}
use Rattle.std.proofs.lemmas.Bool.{ltb-true, ltb-false, ne_eqb, cases_Bool}
use Rattle.label.specs.Labels.{on, others, labels}
use Rattle.outbox.specs.Receivers.{struck}
use Rattle.outbox.specs.Orders.{orders_seen}
use Rattle.outbox.specs.Rows.{order_in}
use Rattle.outbox.specs.declared.orders.Orders.{Orders}
use Rattle.outbox.proofs.RowLemmas.{others-few}
use Rattle.tree.specs.LieutenantTree.{LieutenantTree, IsCampaign}
use Rattle.round.specs.Letters.{Letter}
use Rattle.round.specs.Told.{lieutenant_at, told_now}
use Rattle.round.specs.Delivery.{AreTellersOf, IsWalk}
use Rattle.round.specs.declared.front.LabelPrefix.{LabelPrefix}
use Rattle.round.proofs.Striking.{different, named, struck_before, struck_others, struck_past}
use Rattle.round.proofs.Lists.{some_at}
use Rattle.round.proofs.Walking.{all_children, tell_child}

-- States that this general is at an index of the list.
pub record IsTeller (t : LieutenantTree) (w : List ℕ) (x place : ℕ) : Type 0 where
  pub within : x < t.generals
  pub away : on (t.general ∷ w) x ≡ false
  pub stands : place ≡ length (others x (t.general ∷ w))
  pub few : place < 13

module _ (t : LieutenantTree) (row : List Letter) (places : List ℕ) (k : ℕ) (f : LabelPrefix) (walk : IsWalk t row places k f) (c : IsCampaign t) (own : ℕ) (rows : List Orders) (a : AreTellersOf row t f own rows) where
  names_all : take a.count a.generals ≡ others t.generals walk.w
  names_all = a.all.names t.commander walk.w walk.front

  room : a.count ≤ length a.generals
  room = let e = a.all.few in let l = a.all.long in let m = c.few in omega arith

  other : (i : ℕ) → i ≢ own → i < a.count → get_or a.generals i 0 ≢ t.general
  other i ne lt e = different t.generals i own a.count walk.w a.generals names_all ne lt a.within room (e ∙ sym a.own)

  teller : (i place : ℕ) → i < a.count → i ≢ own → length (struck t.general (take i a.generals)) ≡ place → IsTeller t walk.w (get_or a.generals i 0) place
  teller i place lt ne ep =
      let who = named t.generals t.general (get_or a.generals i 0) i a.count walk.w a.generals names_all lt (let r = room in omega arith) refl in
      let few = others-few (get_or a.generals i 0) (t.general ∷ walk.w) in
      record {
        within = who.within;
        away = rw (ne_eqb t.general (get_or a.generals i 0) (λ e. other i ne lt (sym e)), who.off) refl;
        stands = sym ep ∙ who.below;
        few = (let l = who.within in let m = c.few in let e = who.below in omega arith);
      }

  -- Generals before the lieutenant have their own index, and those after him have one less.
  pub teller_before : (place : ℕ) → place < own → IsTeller t walk.w (get_or a.generals place 0) place
  teller_before place lt =
      let within = a.within in let r = room in
      teller place place (omega arith) (λ e. absurd (omega arith)) (struck_before t.general a.generals place (omega arith) (λ j less. other j (λ e. absurd (omega arith)) (omega arith)))

  past_them : (place : ℕ) → own ≤ place → place < a.count → length (struck t.general (take (place + 1) a.generals)) ≡ place
  past_them place le lt =
      let r = room in
      let e : own + (place - own) ≡ place = omega arith in
      ap (λ (m : ℕ). length (struck t.general (take (m + 1) a.generals))) (sym e) ∙ (struck_past t.general a.generals own (place - own) (omega arith) a.own (λ j less ne. other j ne (omega arith)) ∙ e)

  pub teller_past : (place : ℕ) → own ≤ place → place + 1 < a.count → IsTeller t walk.w (get_or a.generals (place + 1) 0) place
  teller_past place le lt = teller (place + 1) place lt (λ e. absurd (omega arith)) (past_them place le (omega arith))

  -- How many generals there are.
  pub all_tell : a.count ≡ t.generals - (f.size + 1) + 1
  all_tell =
      let within = a.within in
      let e : a.count - 1 + 1 ≡ a.count = omega arith in
      let all : a.count - 1 ≡ length (others t.generals (t.general ∷ walk.w)) =
      sym (past_them (a.count - 1) (omega arith) (omega arith)) ∙ (ap (λ (j : ℕ). length (struck t.general (take j a.generals))) e ∙ (ap (λ xs. length (struck t.general xs)) names_all ∙ ap length (struck_others t.generals t.general walk.w))) in
      let last : a.count - 1 ≡ t.generals - (f.size + 1) = all_children t.generals t.commander t.general (a.count - 1) walk.w f walk.front c.commander c.general walk.off all in
      omega arith

  -- The order of the general at an index, if the lieutenant himself is skipped.
  pub tells_past : f.size + 1 ≡ k → (first width place : ℕ) → width ≡ t.generals - k → first ≡ slice_index f.ranks t.general * width → place < width → (value : Option ℕ) → ((r : Orders) → slice_get rows (lieutenant_at own place) ≡ Some r → value ≡ order_in t.general (orders_seen r)) →
      (w : List ℕ) → slice_get (labels t.generals t.commander t.general k) (first + place) ≡ Some w → value ≡ told_now row w t.general
  tells_past last first width place ew ef lt value is w there = ⊎_elim
      (λ (q : nat_lt place own ≡ true).
      let before : place < own = ltb-true place own q in
      let here : lieutenant_at own place ≡ place = ap (λ (b : Bool). if b then place else place + 1) q in
      let who = teller_before place before in
      let few : place < a.count = let l = a.within in omega arith in
      tell_child t row places k f walk last c first width place (get_or a.generals place 0) ew ef who.within who.away who.stands value
      (let row = some_at rows place (let f = a.all.few in let l = a.all.wide in let m = c.few in omega arith) in is row.0 (ap (λ (i : ℕ). slice_get rows i) here ∙ row.1) ∙ a.all.rows place t.general row.0 few row.1) w there)
      (λ (q : nat_lt place own ≡ false).
      let behind : own ≤ place = ltb-false place own q in
      let here : lieutenant_at own place ≡ place + 1 = ap (λ (b : Bool). if b then place else place + 1) q in
      let few : place + 1 < a.count = let all = all_tell in omega arith in
      let who = teller_past place behind few in
      tell_child t row places k f walk last c first width place (get_or a.generals (place + 1) 0) ew ef who.within who.away who.stands value
      (let row = some_at rows (place + 1) (let f = a.all.few in let l = a.all.wide in let m = c.few in omega arith) in is row.0 (ap (λ (i : ℕ). slice_get rows i) here ∙ row.1) ∙ a.all.rows (place + 1) t.general row.0 few row.1) w there)
      (cases_Bool (nat_lt place own))
