-- What a tree contains for a label.
use Rattle.std.proofs.Common.{ℕ, zero, suc, ◌+◌, ◌-◌, ◌^◌, ◌<◌, ◌≤◌, ◌≡◌, Bool, true, false, cond, List, [], ◌∷◌, length, map, take, refl, sym, ap, ◌∙◌, arith, inl, inr, Option, None, Some, All, get_or, subst}
use Rattle.std.specs.Prelude.{◌==◌, bytes_eq, find, option_map, slice_get, unwrap_or}
use Rattle.std.specs.List.{list_any}
use Rattle.std.proofs.lemmas.Bool.{cases_Bool, cases_lt, cond-true, cond-false, eq-eqb, or_cases, or_left, or_right, true≢false}
use Rattle.std.proofs.lemmas.List.{length-map}
use Rattle.std.proofs.lemmas.Option.{get_or_from_slice_get, slice_get-map, slice_get_within}
use Rattle.std.proofs.lemmas.Slice.Eq.{bytes_eq-Decides}
use Rattle.label.specs.Labels.{labels}
use Rattle.label.specs.Oral.{Messages, BeginsWith, order_of}
use Rattle.label.proofs.Listing.{proved_labels_are_exact}
use Rattle.tree.specs.LieutenantTree.{LieutenantTree, IsCampaign, IsFilled, IsPlace, level_of, level_told}
use Rattle.tree.proofs.Levels.{levels-long, levels-at}
use Rattle.book.specs.Hearing.{beside, value_of, heard}
use Rattle.book.specs.WrittenLaws.{AreOrders}

abbrev no_level : List (Option ℕ)
no_level = []

empty_get : (i v : ℕ) → slice_get no_level i ≡ Some (Some v) → ⊥
empty_get i v e = cc

-- The label is one of these.
abbrev is_among : List ℕ → List (List ℕ) → Bool
is_among w vs = list_any (λ v. bytes_eq v w) vs

-- The value at the label's position, if each label has its message.
beside_all : (M : Messages) (g : ℕ) (w : List ℕ) (vs : List (List ℕ)) → beside w vs (map (λ v. M v g) vs) ≡ cond (is_among w vs) (M w g) None
beside_all M g w [] = refl
beside_all M g w (v ∷ vs) = elim (cases_Bool (bytes_eq v w)) [
  | inl here ↦
      let same : v ≡ w = (bytes_eq-Decides v w).0 here in
      cond-true (bytes_eq v w) (M v g) (beside w vs (map (λ u. M u g) vs)) here
      ∙ (ap (λ u. M u g) same ∙ sym (cond-true (is_among w (v ∷ vs)) (M w g) None (or_left (bytes_eq v w) (is_among w vs) here)))
  | inr apart ↦
      cond-false (bytes_eq v w) (M v g) (beside w vs (map (λ u. M u g) vs)) apart
      ∙ (beside_all M g w vs ∙ ap (λ b. cond b (M w g) None) (sym (rw apart refl)))
]

beside_none : (w : List ℕ) (vs : List (List ℕ)) → beside w vs [] ≡ None
beside_none w [] = refl
beside_none w (v ∷ vs) = refl

among_at : (w : List ℕ) (vs : List (List ℕ)) → is_among w vs ≡ true → (r : ℕ) × (slice_get vs r ≡ Some w)
among_at w [] i = absurd (true≢false (sym i))
among_at w (v ∷ vs) i = elim (or_cases (bytes_eq v w) (is_among w vs) i) [
  | inl here ↦ (0, ap (λ (u : List ℕ). Some u) ((bytes_eq-Decides v w).0 here))
  | inr there ↦ (let rest = among_at w vs there in (suc rest.0, rest.1))
]

at_among : (w : List ℕ) (vs : List (List ℕ)) (r : ℕ) → slice_get vs r ≡ Some w → is_among w vs ≡ true
at_among w [] r e = cc
at_among w (v ∷ vs) zero e = or_left (bytes_eq v w) (is_among w vs) ((bytes_eq-Decides v w).1 cc)
at_among w (v ∷ vs) (suc r) e = or_right (bytes_eq v w) (is_among w vs) (at_among w vs r e)

-- The level of a length is filled label by label, and there is none after the last.
level_within : (t : LieutenantTree) (M : Messages) (k : ℕ) → IsFilled t M → k < t.bound + 1 → level_of t (suc k) ≡ level_told t.generals t.commander t.general M (suc k)
level_within t M k filled l =
    let same : suc k - 1 ≡ k = omega arith in
    let one : 1 + k ≡ suc k = omega arith in
    ap (λ i. unwrap_or (slice_get t.levels i) []) same
    ∙ (ap (λ ls. unwrap_or (slice_get ls k) []) filled
    ∙ (ap (λ o. unwrap_or o []) (levels-at t.generals t.commander t.general M 1 (t.bound + 1) k l)
    ∙ ap (level_told t.generals t.commander t.general M) one))

get_past : {A : Type 0} (xs : List A) (i : ℕ) → length xs ≤ i → slice_get xs i ≡ None
get_past [] i l = refl
get_past (x ∷ xs) zero l = absurd (omega arith)
get_past (x ∷ xs) (suc i) l = get_past xs i (omega arith)

level_past : (t : LieutenantTree) (M : Messages) (k : ℕ) → IsFilled t M → t.bound + 1 ≤ k → level_of t (suc k) ≡ []
level_past t M k filled l =
    let same : suc k - 1 ≡ k = omega arith in
    let long : length t.levels ≡ t.bound + 1 = ap length filled ∙ levels-long t.generals t.commander t.general M 1 (t.bound + 1) in
    ap (λ i. unwrap_or (slice_get t.levels i) []) same ∙ ap (λ o. unwrap_or o []) (get_past t.levels k (omega arith))

begins_long : (c : ℕ) (w : List ℕ) → BeginsWith c w → 0 < length w
begins_long c [] b = absurd b
begins_long c (x ∷ xs) b = omega arith

some_none : {A : Type 0} {a : A} → Some a ≡ None → ⊥
some_none e = cc

-- What a label contains, if there is such a label.
module _ (t : LieutenantTree) (M : Messages) (w : List ℕ) (told : Option ℕ) (campaign : IsCampaign t) (filled : IsFilled t M) (place : IsPlace t w → told ≡ M w t.general) (strange : (IsPlace t w → ⊥) → told ≡ None) where
  stands : (k : ℕ) → length w ≡ suc k → k < t.bound + 1 → told ≡ cond (is_among w (labels t.generals t.commander t.general (suc k))) (M w t.general) None
  stands k e l = elim (cases_Bool (is_among w (labels t.generals t.commander t.general (suc k)))) [
    | inl here ↦
        let at = among_at w (labels t.generals t.commander t.general (suc k)) here in
        let label = proved_labels_are_exact.only t.generals t.commander t.general (suc k) at.0 w campaign.commander campaign.general campaign.lieutenant at.1 in
        let own : IsPlace t w = record { label = label.0; without = label.1; short = omega arith } in
        place own ∙ sym (cond-true (is_among w (labels t.generals t.commander t.general (suc k))) (M w t.general) None here)
    | inr apart ↦
        strange (λ own.
        let at = proved_labels_are_exact.all t.generals t.commander t.general w campaign.commander campaign.general campaign.lieutenant own.label own.without in
        let there = at_among w (labels t.generals t.commander t.general (length w)) at.0 at.1 in
        true≢false (sym (sym (ap (λ i. is_among w (labels t.generals t.commander t.general i)) e) ∙ there) ∙ apart))
        ∙ sym (cond-false (is_among w (labels t.generals t.commander t.general (suc k))) (M w t.general) None apart)
  ]

  -- For a label with at least one general.
  with_some : (k : ℕ) → length w ≡ suc k → told ≡ beside w (labels t.generals t.commander t.general (suc k)) (level_of t (suc k))
  with_some k e = elim (cases_lt k (t.bound + 1)) [
    | inl within ↦
        stands k e within
        ∙ (sym (beside_all M t.general w (labels t.generals t.commander t.general (suc k)))
        ∙ ap (λ level. beside w (labels t.generals t.commander t.general (suc k)) level) (sym (level_within t M k filled within)))
    | inr past ↦
        strange (λ own. let short = own.short in absurd (omega arith))
        ∙ (sym (beside_none w (labels t.generals t.commander t.general (suc k)))
        ∙ ap (λ level. beside w (labels t.generals t.commander t.general (suc k)) level) (sym (level_past t M k filled past)))
  ]

  -- For the empty list.
  with_none : length w ≡ 0 → told ≡ beside w (labels t.generals t.commander t.general 0) (level_of t 0)
  unfolding labels
  with_none e = strange (λ own. let some = begins_long t.commander w own.label.first in absurd (omega arith))

  pub value_is : told ≡ value_of (Some t) w
  value_is = elim (cases_lt 0 (length w)) [
    | inl some ↦
        let e : length w ≡ suc (length w - 1) = omega arith in
        with_some (length w - 1) e ∙ ap (λ i. beside w (labels t.generals t.commander t.general i) (level_of t i)) (sym e)
    | inr none ↦
        let e : length w ≡ 0 = omega arith in
        with_none e ∙ ap (λ i. beside w (labels t.generals t.commander t.general i) (level_of t i)) (sym e)
  ]

-- What a tree contains for a label, if it is filled from these messages.
pub value_told : (t : LieutenantTree) (M : Messages) (w : List ℕ) → IsCampaign t → IsFilled t M → IsPlace t w → value_of (Some t) w ≡ M w t.general
value_told t M w campaign filled place = sym (value_is t M w (M w t.general) campaign filled (λ _. refl) (λ strange. absurd (strange place)))

-- These trees are not the general's, and the next one is.
pub found_here : (p : ℕ) (trees : List LieutenantTree) (i : ℕ) (t : LieutenantTree) → find (λ u. u.general == p) (take i trees) ≡ None → slice_get trees i ≡ Some t → t.general ≡ p → find (λ u. u.general == p) trees ≡ Some t
found_here p [] i t none at e = cc
found_here p (u ∷ trees) zero t none at e =
    let same : u ≡ t = cc in
    cond-true (u.general == p) (Some u) (find (λ v. v.general == p) trees) (ap (λ (v : LieutenantTree). v.general == p) same ∙ eq-eqb t.general p e) ∙ ap (λ (v : LieutenantTree). Some v) same
found_here p (u ∷ trees) (suc i) t none at e = elim (cases_Bool (u.general == p)) [
  | inl here ↦ absurd (some_none (sym (cond-true (u.general == p) (Some u) (find (λ v. v.general == p) (take i trees)) here) ∙ none))
  | inr apart ↦
      cond-false (u.general == p) (Some u) (find (λ v. v.general == p) trees) apart
      ∙ found_here p trees i t (sym (cond-false (u.general == p) (Some u) (find (λ v. v.general == p) (take i trees)) apart) ∙ none) at e
]

pub none_more : (p : ℕ) (trees : List LieutenantTree) (i : ℕ) (t : LieutenantTree) → find (λ u. u.general == p) (take i trees) ≡ None → slice_get trees i ≡ Some t → (t.general == p) ≡ false → find (λ u. u.general == p) (take (suc i) trees) ≡ None
none_more p [] i t none at e = cc
none_more p (u ∷ trees) zero t none at e =
    let same : u ≡ t = cc in
    cond-false (u.general == p) (Some u) None (ap (λ (v : LieutenantTree). v.general == p) same ∙ e)
none_more p (u ∷ trees) (suc i) t none at e = elim (cases_Bool (u.general == p)) [
  | inl here ↦ absurd (some_none (sym (cond-true (u.general == p) (Some u) (find (λ v. v.general == p) (take i trees)) here) ∙ none))
  | inr apart ↦
      cond-false (u.general == p) (Some u) (find (λ v. v.general == p) (take (suc i) trees)) apart
      ∙ none_more p trees i t (sym (cond-false (u.general == p) (Some u) (find (λ v. v.general == p) (take i trees)) apart) ∙ none) at e
]

-- The first tree of a general.
pub heard_at : (trees : List LieutenantTree) (w : List ℕ) (p i : ℕ) (t : LieutenantTree) → find (λ u. u.general == p) (take i trees) ≡ None → slice_get trees i ≡ Some t → t.general ≡ p → heard trees w p ≡ value_of (Some t) w
unfolding heard
heard_at trees w p i t none at e = ap (λ o. value_of o w) (found_here p trees i t none at e)

-- No tree is the general's.
pub heard_nowhere : (trees : List LieutenantTree) (w : List ℕ) (p : ℕ) → find (λ u. u.general == p) trees ≡ None → heard trees w p ≡ None
unfolding heard
heard_nowhere trees w p none = ap (λ o. value_of o w) none

-- The orders of each level have at most 32 bits.
abbrev pub AreSmall : List (Option ℕ) → Type 0
AreSmall level = (i v : ℕ) → slice_get level i ≡ Some (Some v) → v < 2 ^ 32

-- The orders of a level that the code stores have at most 32 bits.
pub small_level : (level : List (Option ℕ)) (orders : List ℕ) → orders ≡ map order_of level → All (λ order. order < 2 ^ 32) orders → AreSmall level
small_level level orders e small i v at =
    let read : get_or orders i 0 ≡ v = ap (λ (l : List ℕ). get_or l i 0) e ∙ get_or_from_slice_get (map order_of level) i v 0 (slice_get-map order_of level i ∙ ap (option_map order_of) at) in
    let inside : i < length level = slice_get_within level i (Some v) at in
    let long : length orders ≡ length level = ap length e ∙ length-map level order_of in
    let P : ℕ → Type 0 = λ n. n < 2 ^ 32 in
    subst P read (small i 0 (omega arith))

abbrev pub AreLevelsSmall : LieutenantTree → Type 0
AreLevelsSmall t = (k : ℕ) → AreSmall (level_of t k)

small_beside : (w : List ℕ) (vs : List (List ℕ)) (level : List (Option ℕ)) (v : ℕ) → AreSmall level → beside w vs level ≡ Some v → v < 2 ^ 32
small_beside w [] level v small e = cc
small_beside w (u ∷ us) [] v small e = cc
small_beside w (u ∷ us) (x ∷ xs) v small e = elim (cases_Bool (bytes_eq u w)) [
  | inl here ↦ small 0 v (ap (λ (o : Option ℕ). Some o) (sym (cond-true (bytes_eq u w) x (beside w us xs) here) ∙ e))
  | inr apart ↦ small_beside w us xs v (λ i. small (suc i)) (sym (cond-false (bytes_eq u w) x (beside w us xs) apart) ∙ e)
]

small_value : (o : Option LieutenantTree) (w : List ℕ) (v : ℕ) → ((t : LieutenantTree) → o ≡ Some t → AreLevelsSmall t) → value_of o w ≡ Some v → v < 2 ^ 32
small_value None w v small e = cc
small_value (Some t) w v small e = small_beside w (labels t.generals t.commander t.general (length w)) (level_of t (length w)) v (small t refl (length w)) e

found_there : (p : ℕ) (trees : List LieutenantTree) (t : LieutenantTree) → find (λ u. u.general == p) trees ≡ Some t → (i : ℕ) × (slice_get trees i ≡ Some t)
found_there p [] t e = cc
found_there p (u ∷ trees) t e = elim (cases_Bool (u.general == p)) [
  | inl here ↦ (0, sym (cond-true (u.general == p) (Some u) (find (λ v. v.general == p) trees) here) ∙ e)
  | inr apart ↦ (let rest = found_there p trees t (sym (cond-false (u.general == p) (Some u) (find (λ v. v.general == p) trees) apart) ∙ e) in (suc rest.0, rest.1))
]

-- So have those that the trees contain.
pub orders_small : (trees : List LieutenantTree) → ((i : ℕ) (t : LieutenantTree) → slice_get trees i ≡ Some t → AreLevelsSmall t) → AreOrders (heard trees)
unfolding heard
orders_small trees small w p v e =
    small_value (find (λ u. u.general == p) trees) w v (λ t is. let at = found_there p trees t is in small at.0 t at.1) e

-- All levels have, if those of the campaign's lengths have.
pub levels_small : (t : LieutenantTree) (M : Messages) → IsFilled t M → ((k : ℕ) → 0 < k → k ≤ t.bound + 1 → AreSmall (level_of t k)) → AreLevelsSmall t
levels_small t M filled small zero = small 1 (omega arith) (omega arith)
levels_small t M filled small (suc k) = elim (cases_lt k (t.bound + 1)) [
  | inl within ↦ small (suc k) (omega arith) (omega arith)
  | inr past ↦ λ i v e. absurd (empty_get i v (sym (ap (λ level. slice_get level i) (level_past t M k filled past)) ∙ e))
]

-- One more level.
pub one_more_small : (t : LieutenantTree) (size : ℕ) → ((k : ℕ) → 0 < k → k ≤ size → AreSmall (level_of t k)) → AreSmall (level_of t (size + 1)) → (k : ℕ) → 0 < k → k ≤ size + 1 → AreSmall (level_of t k)
one_more_small t size before here k some short = elim (cases_lt k (size + 1)) [
  | inl less ↦ before k some (omega arith)
  | inr more ↦ let e : size + 1 ≡ k = omega arith in subst (λ (j : ℕ). AreSmall (level_of t j)) e here
]
