-- The generals off a label are listed, each with the label's row in his letter.
use Rattle.std.proofs.Common.{◌≡◌, ◌≢◌, ℕ, ◌+◌, ◌<◌, ◌≤◌, List, [], ◌∷◌, ◌++◌, length, take, get_or, set, Bool, true, false, not, cond, refl, sym, ap, ◌∙◌, Some, None, Option, arith, ⊎_elim, add-one, length-set, get_or-set_same, get_or-set_other}
use Rattle.std.specs.Prelude.{slice_get, slice_index, slice_index_or, unwrap_or, ◌==◌}
use Rattle.std.proofs.lemmas.Bool.Decides.{eqb_tells}
use Rattle.std.proofs.lemmas.List.{take_more_set, take-set}
use Rattle.label.specs.Labels.{on}
use Rattle.label.proofs.Ranks.{others-more_no, others-more_yes}
use Rattle.outbox.specs.Orders.{order_of_row, orders_seen}
use Rattle.outbox.specs.Rows.{order_in}
use Rattle.outbox.specs.declared.orders.Orders.{Orders}
use Rattle.outbox.specs.declared.orders.Orders.TheVariants.{Nobody}
use Rattle.round.specs.Letters.{Letter, letter_of}
use Rattle.round.specs.Delivery.{AreTellers, order_in_letter, Tellers}
use Rattle.round.specs.declared.front.LabelPrefix.{LabelPrefix}
use Rattle.round.proofs.Lists.{some_same, get_set, get_unset}
use Rattle.std.proofs.lemmas.Bool.{cases_Bool}

-- The row of a letter, or one without orders if there is no letter.
pub or_nobody : (o : Option Orders) (p : ℕ) → order_in p (orders_seen (unwrap_or o Nobody)) ≡ order_of_row o p
or_nobody None p = refl
or_nobody (Some r) p = refl

pub none_gathered : (row : List Letter) (n : ℕ) (f : LabelPrefix) (t : Tellers) → t.count ≡ 0 → length t.generals ≡ 13 → length t.rows ≡ 13 → AreTellers row n f 0 t
none_gathered row n f t none long wide = record {
  long = long;
  wide = wide;
  few = omega arith;
  names = λ c w h. ap (λ (k : ℕ). take k t.generals) none;
  rows = λ i p r lt there. absurd (omega arith);
}

-- One more general is listed.
pub one_gathered : (row : List Letter) (n : ℕ) (f : LabelPrefix) (x : ℕ) (t : Tellers) (o : Orders) → AreTellers row n f x t → x < n → n ≤ 13 → slice_index_or f.on x false ≡ false → ((p : ℕ) → order_in p (orders_seen o) ≡ order_in_letter (letter_of row x) (slice_index f.ranks x) p) →
    AreTellers row n f (x + 1) (record { count = t.count + 1; generals = set t.generals t.count x; rows = set t.rows t.count o })
one_gathered row n f x t o h within small mark tells = record {
  long = length-set t.generals t.count x ∙ h.long;
  wide = length-set t.rows t.count o ∙ h.wide;
  few = (let a = h.few in omega arith);
  names = λ c w front.
      let off : on w x ≡ false = sym (front.marks x within) ∙ mark in
      take_more_set t.generals t.count x room ∙ (ap (λ (xs : List ℕ). xs ++ x ∷ []) (h.names c w front) ∙ sym (rw add-one (others-more_yes w x off)));
  rows = λ i p r lt there. ⊎_elim
      (λ (q : (i == t.count ≡ true) × (i ≡ t.count)).
      let here : o ≡ r = some_same (sym (get_set t.rows t.count o room') ∙ (ap (λ (k : ℕ). slice_get (set t.rows t.count o) k) (sym q.1) ∙ there)) in
      let name : get_or (set t.generals t.count x) i 0 ≡ x = ap (λ (k : ℕ). get_or (set t.generals t.count x) k 0) q.1 ∙ get_or-set_same t.generals t.count x 0 room in
      ap (λ (x : Orders). order_in p (orders_seen x)) (sym here) ∙ rw name (tells p))
      (λ (q : (i == t.count ≡ false) × (i ≢ t.count)).
      let here : slice_get t.rows i ≡ Some r = sym (get_unset t.rows t.count i o q.1) ∙ there in
      let name : get_or (set t.generals t.count x) i 0 ≡ get_or t.generals i 0 = get_or-set_other t.generals t.count i x 0 q.1 in
      rw name (h.rows i p r (let ne = q.1 in omega arith) here))
      (eqb_tells i t.count);
}
  where
    room : t.count < length t.generals
    room = let a = h.few in let l = h.long in omega arith

    room' : t.count < length t.rows
    room' = let a = h.few in let l = h.wide in omega arith

-- A general on the label is not counted: what is written for him has no meaning.
pub same_gathered : (row : List Letter) (n : ℕ) (f : LabelPrefix) (x : ℕ) (t : Tellers) (o : Orders) → AreTellers row n f x t → x < n → slice_index_or f.on x false ≡ true → AreTellers row n f (x + 1) (record { count = t.count; generals = set t.generals t.count x; rows = set t.rows t.count o })
same_gathered row n f x t o h within mark = record {
  long = length-set t.generals t.count x ∙ h.long;
  wide = length-set t.rows t.count o ∙ h.wide;
  few = (let a = h.few in omega arith);
  names = λ c w front. take-set t.generals t.count x ∙ (h.names c w front ∙ sym (rw add-one (others-more_no w x (sym (front.marks x within) ∙ mark))));
  rows = λ i p r lt there.
      let ne : i ≢ t.count = λ e. absurd (omega arith) in
      rw (get_or-set_other t.generals t.count i x 0 ne) (h.rows i p r lt (sym (get_unset t.rows t.count i o ne) ∙ there));
}

-- The next general is considered, who may be off the label or on it.
pub next_gathered : (row : List Letter) (n : ℕ) (f : LabelPrefix) (x count : ℕ) (t : Tellers) (o : Orders) → AreTellers row n f x t → x < n → n ≤ 13 → count ≡ t.count + cond {A = ℕ} (not (slice_index_or f.on x false)) 1 0 → ((p : ℕ) → order_in p (orders_seen o) ≡ order_in_letter (letter_of row x) (slice_index f.ranks x) p) →
    AreTellers row n f (x + 1) (record { count = count; generals = set t.generals t.count x; rows = set t.rows t.count o })
next_gathered row n f x count t o h within small e tells = ⊎_elim
    (λ (q : slice_index_or f.on x false ≡ true).
    let same : count ≡ t.count = e ∙ (ap (λ (b : Bool). t.count + cond {A = ℕ} (not b) 1 0) q ∙ (omega arith)) in
    rw same (same_gathered row n f x t o h within q))
    (λ (q : slice_index_or f.on x false ≡ false).
    let more : count ≡ t.count + 1 = e ∙ ap (λ (b : Bool). t.count + cond {A = ℕ} (not b) 1 0) q in
    rw more (one_gathered row n f x t o h within small q tells))
    (cases_Bool (slice_index_or f.on x false))

pub one_at_most : (m : ℕ) (b : Bool) → m ≡ cond {A = ℕ} b 1 0 → m ≤ 1
one_at_most m true e = omega arith
one_at_most m false e = omega arith

pub counted : {m : ℕ} (b : Bool) (as_number : Bool → ℕ) → as_number true ≡ 1 → as_number false ≡ 0 → m ≡ as_number b → m ≡ cond {A = ℕ} b 1 0
counted true as_number one none e = e ∙ one
counted false as_number one none e = e ∙ none
