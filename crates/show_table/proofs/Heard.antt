-- The trees of all lieutenants together contain the messages of the letters.
use Rattle.std.proofs.Common.{ℕ, zero, suc, ◌+◌, ◌-◌, ◌<◌, ◌≤◌, ◌≡◌, ◌≢◌, true, false, List, [], ◌∷◌, length, take, refl, sym, ap, subst, ◌∙◌, arith, inl, inr, None, Some}
use Rattle.std.specs.Prelude.{◌==◌, find, nat_lt, slice_get}
use Rattle.std.proofs.lemmas.Bool.{cases_lt, cases_order, cond-true, cond-false, ne_eqb, lt-ltb, le-ltb}
use Rattle.label.specs.Labels.{on}
use Rattle.label.specs.Oral.{IsLabel}
use Rattle.book.specs.Table.{MessageTable}
use Rattle.book.proofs.Places.{is_place_of}
use Rattle.book.proofs.TreeLemmas.{place_of_tree}
use Rattle.combine.specs.declared.campaign_rule.Rule.TheVariants.{Majority}
use Rattle.tree.specs.LieutenantTree.{LieutenantTree, IsCampaign, IsPlace}
use Rattle.round.specs.Scenario.{Scenario, IsScenario}
use Rattle.round.specs.Letters.{Letter, messages}
use Rattle.round.specs.Told.{IsTreeOf, ToldSeen, WasTold, lieutenant_at}
use Rattle.book.specs.Hearing.{heard}
use Rattle.book.proofs.Hearing.{heard_at, value_told}

-- Proves that none of the first trees is the general's.
none_upto : (p : ℕ) (trees : List LieutenantTree) (i : ℕ) → ((j : ℕ) (t : LieutenantTree) → j < i → slice_get trees j ≡ Some t → (t.general == p) ≡ false) → find (λ t. t.general == p) (take i trees) ≡ None
none_upto p [] zero h = refl
none_upto p [] (suc i) h = refl
none_upto p (u ∷ trees) zero h = refl
none_upto p (u ∷ trees) (suc i) h =
    cond-false (u.general == p) (Some u) (find (λ t. t.general == p) (take i trees)) (h 0 u (omega arith) refl)
    ∙ none_upto p trees i (λ j t l at. h (suc j) t (omega arith) at)

got : {A : Type 0} (xs : List A) (i : ℕ) → i < length xs → (x : A) × (slice_get xs i ≡ Some x)
got [] i l = absurd (omega arith)
got (x ∷ xs) zero l = (x, refl)
got (x ∷ xs) (suc i) l = got xs i (omega arith)

below : (c i : ℕ) → i < c → lieutenant_at c i ≡ i
below c i l = cond-true (nat_lt i c) i (i + 1) (lt-ltb i c l)

above : (c i : ℕ) → c ≤ i → lieutenant_at c i ≡ i + 1
above c i l = cond-false (nat_lt i c) i (i + 1) (le-ltb i c l)

-- States which index a lieutenant has in the list of lieutenants.
record IsIndexOf (n c p i : ℕ) : Type 0 where
  within : i + 1 < n
  there : lieutenant_at c i ≡ p
  before : (j : ℕ) → j < i → lieutenant_at c j < p

lower : (c p : ℕ) → p < c → (j : ℕ) → j < p → lieutenant_at c j < p
lower c p low j l = let e = below c j (omega arith) in omega arith

upper : (c p : ℕ) → c < p → (j : ℕ) → j < p - 1 → lieutenant_at c j < p
upper c p high j l = elim (cases_lt j c) [
  | inl under ↦ (let e = below c j under in omega arith)
  | inr over ↦ (let e = above c j over in omega arith)
]

index_of : (n c p : ℕ) → c < n → p < n → p ≢ c → (i : ℕ) × IsIndexOf n c p i
index_of n c p lc l ne = elim (cases_order p c) [
  | inl same ↦ absurd (ne same)
  | inr apart ↦ elim apart [
    | inl low ↦ (p, record { within = omega arith; there = below c p low; before = lower c p low })
    | inr high ↦ (p - 1, record { within = omega arith; there = (let e = above c (p - 1) (omega arith) in omega arith); before = upper c p high })
  ]
]

module _ (s : Scenario) (before : List (List Letter)) (h : ToldSeen) (inside : IsScenario s) (told : WasTold s before h) where
  -- Proves that the tree of a lieutenant belongs to the campaign.
  tree_campaign : (g : ℕ) (t : LieutenantTree) → IsTreeOf s before g t → IsCampaign t
  tree_campaign g t is =
      let few = inside.few in
      let rounds = inside.rounds in
      let commander = inside.commander in
      let en = is.generals in
      let em = is.bound in
      let ec = is.commander in
      let eg = is.general in
      let lg = is.within in
      let ne = is.lieutenant in
      record { few = omega arith; commander = omega arith; general = omega arith; lieutenant = λ e. ne (sym eg ∙ (e ∙ ec)); small = omega arith }

  tree_place : (g : ℕ) (t : LieutenantTree) (w : List ℕ) → IsTreeOf s before g t → is_place_of s.generals s.bound s.commander w g ≡ true → IsPlace t w
  tree_place g t w is place =
      let table : MessageTable = record { generals = s.generals; bound = s.bound; commander = s.commander; rule = Majority; messages = [] } in
      let own = (place_of_tree table (messages before) w g place).0 in
      let em = is.bound in
      let short = own.short in
      record {
        label = subst (λ (n : ℕ). IsLabel n t.commander w) (sym is.generals) (subst (λ (c : ℕ). IsLabel s.generals c w) (sym is.commander) own.label);
        without = ap (on w) is.general ∙ own.without;
        short = omega arith;
      }

  at_index : (p i : ℕ) (t : LieutenantTree) (w : List ℕ) → IsIndexOf s.generals s.commander p i → slice_get h.trees i ≡ Some t → is_place_of s.generals s.bound s.commander w p ≡ true → heard h.trees w p ≡ messages before w p
  at_index p i t w index at place =
      let is : IsTreeOf s before p t = subst (λ (g : ℕ). IsTreeOf s before g t) index.there (told.trees i t at) in
      let none : find (λ u. u.general == p) (take i h.trees) ≡ None =
      none_upto p h.trees i (λ j u l got. ne_eqb u.general p (λ e.
      let less = index.before j l in
      let general = (told.trees j u got).general in
      absurd (omega arith)))
      in
      heard_at h.trees w p i t none at is.general ∙ (value_told t (messages before) w (tree_campaign p t is) is.filled (tree_place p t w is place) ∙ ap (messages before w) is.general)

  -- Proves that the trees contain the messages.
  pub heard_is : (w : List ℕ) (p : ℕ) → is_place_of s.generals s.bound s.commander w p ≡ true → heard h.trees w p ≡ messages before w p
  heard_is w p place =
      let table : MessageTable = record { generals = s.generals; bound = s.bound; commander = s.commander; rule = Majority; messages = [] } in
      let own = place_of_tree table (messages before) w p place in
      let index = index_of s.generals s.commander p inside.commander own.1 own.2 in
      let within = index.1.within in
      let count = told.count in
      let there = got h.trees index.0 (omega arith) in
      at_index p index.0 there.0 w index.1 there.1 place
