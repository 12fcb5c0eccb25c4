-- No signature is forged, and a chain of more than m signatures has a loyal one.
use Rattle.std.proofs.Common.{◌≡◌, ℕ, zero, suc, ◌+◌, ◌<◌, ◌≤◌, Bool, true, false, not, cond, List, [], ◌∷◌, ◌++◌, length, refl, sym, ap, ◌∙◌, arith, inl, inr}
use Rattle.std.specs.Prelude.{count_by, ◌==◌, ◌⊎◌}
use Rattle.std.proofs.lemmas.Bool.{cases_Bool, or_left, or_right, or_cases, or_from, and_parts, eq-eqb, eqb-true, not-true, ne_eqb}
use Rattle.label.specs.Labels.{on, is_distinct, generals, others}
use Rattle.label.specs.Oral.{IsLabel, AllBelow}
use Rattle.label.proofs.Counting.{on-push, others-split}
use Rattle.label.proofs.Pushes.{IsLabel-push}
use Rattle.label.proofs.Ranks.{all_kept}
use Rattle.signed.specs.Chains.{Chain, Among}
use Rattle.signed.specs.Accepted.{Deliveries}
use Rattle.signed.specs.Agreement.{SignsForHimself}
use Rattle.signed.proofs.Lists.{snoc_split, no_cons}

-- States that the general has sent this chain to somebody in a round up to this one.
pub record IsSent (n : ℕ) (S : Deliveries) (g last : ℕ) (ch : Chain) : Type 0 where
  pub round : ℕ
  pub early : round ≤ last
  pub receiver : ℕ
  pub general : receiver < n
  pub there : Among ch (S round g receiver)

pub chain_is : (ch : Chain) (xs : List ℕ) → xs ≡ ch.signers → record { order = ch.order; signers = xs } ≡ ch
chain_is ch xs e = ap {B = Chain} (λ ys. record { order = ch.order; signers = ys }) e

whole : (n : ℕ) (S : Deliveries) (r g p h : ℕ) (ch : Chain) (u : List ℕ) → p < n → Among ch (S r g p) → h ≡ g → u ++ h ∷ [] ≡ ch.signers → IsSent n S h r (record { order = ch.order; signers = u ++ h ∷ [] })
whole n S r g p h ch u l there e s = record { round = r; early = omega arith; receiver = p; general = l; there = rw (chain_is ch (u ++ h ∷ []) s, e) there }

-- Each signer of a chain has himself sent the beginning that ends with his signature.
pub unforged : (n c : ℕ) (S : Deliveries) → ((g : ℕ) → g < n → SignsForHimself n c S g) → (b r : ℕ) → r < b → (g p : ℕ) (ch : Chain) → g < n → p < n → Among ch (S r g p)
    → (u : List ℕ) (h : ℕ) (w : List ℕ) → ch.signers ≡ u ++ h ∷ w → IsSent n S h r (record { order = ch.order; signers = u ++ h ∷ [] })
unforged n c S all zero r lt g p ch gn pn there u h w split = absurd (omega arith)
unforged n c S all (suc b) r lt g p ch gn pn there u h w split =
    elim (all g gn r p ch pn there) [
      | inl own ↦ elim (snoc_split u h w [] g (sym split ∙ own.1)) [
        | inl same ↦ whole n S r g p h ch u pn there same.1 (let a : u ≡ [] = same.0 in let q : h ≡ g = same.1 in rw (a, q) (sym own.1))
        | inr more ↦ absurd (no_cons u h more.0 (sym more.1))
      ]
      | inr pass ↦
          let long : ch.signers ≡ pass.held.signers ++ g ∷ [] = ap (λ x. x.signers) pass.signed in
          elim (snoc_split u h w pass.held.signers g (sym split ∙ long)) [
            | inl same ↦ whole n S r g p h ch u pn there same.1 (let a : u ≡ pass.held.signers = same.0 in let q : h ≡ g = same.1 in rw (a, q) (sym long))
            | inr more ↦
                let i = pass.there in
                let o : pass.held.order ≡ ch.order = sym (ap (λ x. x.order) pass.signed) in
                let sent = unforged n c S all b i.round (let e = i.earlier in omega arith) i.sender g pass.held i.general gn i.came u h more.0 more.1 in
                rw (← o) (record { round = sent.round; early = (let e = i.earlier in let f = sent.early in omega arith); receiver = sent.receiver; general = sent.general; there = sent.there })
          ]
    ]

-- Each chain begins with the commander, and no general has signed it twice.
pub labelled : (n c : ℕ) (S : Deliveries) → c < n → ((g : ℕ) → g < n → SignsForHimself n c S g) → (b r : ℕ) → r < b → (g p : ℕ) (ch : Chain) → g < n → p < n → Among ch (S r g p) → IsLabel n c ch.signers
labelled n c S inside all zero r lt g p ch gn pn there = absurd (omega arith)
labelled n c S inside all (suc b) r lt g p ch gn pn there =
    elim (all g gn r p ch pn there) [
      | inl own ↦ rw own.1 (record { first = own.0; below = (gn, tt); distinct = refl })
      | inr pass ↦
          let i = pass.there in
          let long : ch.signers ≡ pass.held.signers ++ g ∷ [] = ap (λ x. x.signers) pass.signed in
          rw long (IsLabel-push (labelled n c S inside all b i.round (let e = i.earlier in omega arith) i.sender g pass.held i.general gn i.came) g gn pass.once)
    ]

-- Different traitors are no more than all traitors.
pub few_bad : (n : ℕ) (t : ℕ → Bool) (w u : List ℕ) → AllBelow n w → is_distinct w ≡ true → ((j : ℕ) → on w j ≡ true → on u j ≡ false) → ((j : ℕ) → on w j ≡ true → t j ≡ true) → length w ≤ count_by t (others n u)
few_bad n t [] u below d apart bad = omega arith
few_bad n t (x ∷ w) u below d apart bad =
    let here : on (x ∷ w) x ≡ true = or_left (x == x) (on w x) (eq-eqb x x refl) in
    let parts = and_parts (not (on w x)) (is_distinct w) d in
    let lone : on w x ≡ false = not-true (on w x) parts.0 in
    let split : count_by t (others n u) ≡ cond (t x) 1 0 + count_by t (others n (u ++ x ∷ [])) = others-split (λ y. cond (t y) 1 0) n u x below.0 (apart x here) in
    let tx : t x ≡ true = bad x here in
    let split' : count_by t (others n u) ≡ 1 + count_by t (others n (u ++ x ∷ [])) = rw tx at split in
    let far : (j : ℕ) → on w j ≡ true → on (u ++ x ∷ []) j ≡ false = λ j i.
    on-push u x j ∙ or_from (on u j) (x == j) (apart j (or_right (x == j) (on w j) i)) (ne_eqb x j (λ e. let f : on w x ≡ true = rw e i in cc)) in
    let ih : length w ≤ count_by t (others n (u ++ x ∷ [])) = few_bad n t w (u ++ x ∷ []) below.1 parts.1 far (λ j i. bad j (or_right (x == j) (on w j) i)) in
    omega arith

some_loyal : (t : ℕ → Bool) (w : List ℕ) → ((j : ℕ) → on w j ≡ true → t j ≡ true) ⊎ ((h : ℕ) × ((on w h ≡ true) × (t h ≡ false)))
some_loyal t [] = inl (λ j i. cc)
some_loyal t (x ∷ w) = elim (cases_Bool (t x)) [
  | inr good ↦ inr (x, (or_left (x == x) (on w x) (eq-eqb x x refl), good))
  | inl bad ↦ elim (some_loyal t w) [
    | inr r ↦ inr (r.0, (or_right (x == r.0) (on w r.0) r.1.0, r.1.1))
    | inl all ↦ inl (λ j i. elim (or_cases (x == j) (on w j) i) [ inl q ↦ (let e : x ≡ j = eqb-true x j q in rw e at bad) | inr k ↦ all j k ])
  ]
]

-- A chain of more than m signatures has a loyal one.
pub loyal_signer : (n c m : ℕ) (t : ℕ → Bool) (w : List ℕ) → IsLabel n c w → count_by t (generals n) ≤ m → m < length w → (h : ℕ) × ((on w h ≡ true) × (t h ≡ false))
loyal_signer n c m t w label few long = elim (some_loyal t w) [
  | inr r ↦ r
  | inl bad ↦ absurd (
      let short : length w ≤ count_by t (others n []) = few_bad n t w [] label.below label.distinct (λ j i. refl) bad in
      let e : count_by t (others n []) ≡ count_by t (generals n) = ap (count_by t) (all_kept (generals n)) in
      omega arith)
]
