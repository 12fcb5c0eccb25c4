-- Which chains a general receives, which count and are accepted, and what a loyal general sends.
use Rattle.std.proofs.Common.{◌≡◌, ◌≢◌, ℕ, zero, suc, ◌<◌, ◌≤◌, Bool, true, false, not, cond, [], ◌∷◌, map, length, refl, sym, ap, ◌∙◌, arith, inl, inr, length-append}
use Rattle.std.specs.Prelude.{◌==◌, ◌⊎◌, nat_le}
use Rattle.std.proofs.lemmas.Bool.{cases_Bool, cases_eq, or_left, or_right, or_cases, and_parts, and_from, eq-eqb, eqb-true, eqb-false, leb-true, not-true, not_from_false}
use Rattle.label.specs.Labels.{on, generals}
use Rattle.label.proofs.Counting.{range-on, range-on_within}
use Rattle.signed.specs.Chains.{Chain, Among, orders, signed_also, signed_alone}
use Rattle.signed.specs.Accepted.{Deliveries, came, counts, counted, accepted, added, loyal_chains}
use Rattle.signed.specs.Agreement.{IsLoyal, SignsForHimself, IsPassedOn}
use Rattle.signed.proofs.Lists.{filter_out, filter_in, flat_in, flat_out, also_out, on_append, orders_in, orders_out, firsts_out, firsts_in}

pub came_in : (n : ℕ) (S : Deliveries) (r g p : ℕ) (ch : Chain) → g < n → Among ch (S r g p) → Among ch (came n S r p)
came_in n S r g p ch l h = flat_in (λ x. S r x p) (generals n) g ch (range-on 0 n g (omega arith) (omega arith)) h

pub came_out : (n : ℕ) (S : Deliveries) (r p : ℕ) (ch : Chain) → Among ch (came n S r p) → (g : ℕ) × ((g < n) × Among ch (S r g p))
came_out n S r p ch h =
    let f = flat_out (λ x. S r x p) (generals n) ch h in
    (f.0, (omega (arith, range-on_within 0 n f.0 f.1.0), f.1.1))

pub record IsCounted (n : ℕ) (S : Deliveries) (r p : ℕ) (ch : Chain) : Type 0 where
  pub came : Among ch (came n S r p)
  pub size : length ch.signers ≡ r
  pub off : on ch.signers p ≡ false

pub counted_out : (n : ℕ) (S : Deliveries) (r p : ℕ) (ch : Chain) → Among ch (counted n S r p) → IsCounted n S r p ch
counted_out n S r p ch h =
    let f = filter_out (counts r p) (came n S r p) ch h in
    let both = and_parts (length ch.signers == r) (not (on ch.signers p)) f.1 in
    record { came = f.0; size = eqb-true (length ch.signers) r both.0; off = not-true (on ch.signers p) both.1 }

pub counted_in : (n : ℕ) (S : Deliveries) (r p : ℕ) (ch : Chain) → IsCounted n S r p ch → Among ch (counted n S r p)
counted_in n S r p ch h = filter_in (counts r p) (came n S r p) ch h.came (and_from (length ch.signers == r) (not (on ch.signers p)) (eq-eqb (length ch.signers) r h.size) (not_from_false (on ch.signers p) h.off))

accepted_step : (n : ℕ) (S : Deliveries) (r p v : ℕ) → on (accepted n S r p) v ≡ true → on (accepted n S (suc r) p) v ≡ true
unfolding accepted
accepted_step n S r p v h = on_append (accepted n S r p) (orders (added n S r p)) v ∙ or_left (on (accepted n S r p) v) (on (orders (added n S r p)) v) h

pub accepted_within : (n : ℕ) (S : Deliveries) (p v s r : ℕ) → r ≤ s → on (accepted n S r p) v ≡ true → on (accepted n S s p) v ≡ true
accepted_within n S p v zero r l h = let e : r ≡ 0 = omega arith in rw e at h
accepted_within n S p v (suc s) r l h = elim (cases_eq r (suc s)) [
  | inl e ↦ rw e at h
  | inr ne ↦ accepted_step n S s p v (accepted_within n S p v s r (let d : r ≢ suc s = ne in omega arith) h)
]

-- The order of a chain that counts is accepted.
pub counted_accepted : (n : ℕ) (S : Deliveries) (r p : ℕ) (ch : Chain) → Among ch (counted n S (suc r) p) → on (accepted n S (suc r) p) ch.order ≡ true
unfolding accepted
counted_accepted n S r p ch h = elim (cases_Bool (on (accepted n S r p) ch.order)) [
  | inl old ↦ accepted_step n S r p ch.order old
  | inr new ↦ on_append (accepted n S r p) (orders (added n S r p)) ch.order ∙ or_right (on (accepted n S r p) ch.order) (on (orders (added n S r p)) ch.order) (firsts_in (accepted n S r p) (counted n S (suc r) p) ch.order (orders_in (counted n S (suc r) p) ch h) new)
]

-- The chain that brought an order.
pub record IsBrought (n : ℕ) (S : Deliveries) (r p v : ℕ) : Type 0 where
  pub round : ℕ
  pub chain : Chain
  pub early : suc round ≤ r
  pub there : Among chain (added n S round p)
  pub brings : chain.order ≡ v

pub accepted_out : (n : ℕ) (S : Deliveries) (p v r : ℕ) → on (accepted n S r p) v ≡ true → IsBrought n S r p v
unfolding accepted
accepted_out n S p v zero h = cc
accepted_out n S p v (suc r) h = elim (or_cases (on (accepted n S r p) v) (on (orders (added n S r p)) v) (sym (on_append (accepted n S r p) (orders (added n S r p)) v) ∙ h)) [
  | inl old ↦ let b = accepted_out n S p v r old in record { round = b.round; chain = b.chain; early = let e = b.early in omega arith; there = b.there; brings = b.brings }
  | inr new ↦ let o = orders_out (added n S r p) v new in record { round = r; chain = o.0; early = omega arith; there = o.1.0; brings = o.1.1 }
]

pub added_out : (n : ℕ) (S : Deliveries) (r p : ℕ) (ch : Chain) → Among ch (added n S r p) → IsCounted n S (suc r) p ch
added_out n S r p ch h = counted_out n S (suc r) p ch (firsts_out (accepted n S r p) (counted n S (suc r) p) ch h).0

-- A chain that a loyal lieutenant passes on.
pub record IsRelayed (n c m : ℕ) (S : Deliveries) (r g : ℕ) (ch : Chain) : Type 0 where
  pub round : ℕ
  pub held : Chain
  pub here : r ≡ suc (suc round)
  pub lieutenant : g ≢ c
  pub time : suc round ≤ m
  pub there : Among held (added n S round g)
  pub signed : signed_also held g ≡ ch

relayed_more : (n c m : ℕ) (S : Deliveries) (k g : ℕ) (ch : Chain) (b : Bool) → (g == c) ≡ b → (a : Bool) → nat_le (suc k) m ≡ a → Among ch (cond b [] (cond a (map (λ x. signed_also x g) (added n S k g)) [])) → IsRelayed n c m S (suc (suc k)) g ch
relayed_more n c m S k g ch true e a f h = absurd h
relayed_more n c m S k g ch false e false f h = absurd h
relayed_more n c m S k g ch false e true f h =
    let p = also_out g (added n S k g) ch h in
    record { round = k; held = p.0; here = refl; lieutenant = eqb-false g c e; time = leb-true (suc k) m f; there = p.1.0; signed = p.1.1 }

own_more : (c order g : ℕ) (ch : Chain) (b : Bool) → (g == c) ≡ b → Among ch (cond b (signed_alone order c ∷ []) []) → (g ≡ c) × (signed_alone order c ≡ ch)
own_more c order g ch true e h = elim h [ inl q ↦ (eqb-true g c e, q) | inr m ↦ absurd m ]
own_more c order g ch false e h = absurd h

pub chains_out : (n c m order : ℕ) (S : Deliveries) (r g : ℕ) (ch : Chain) → Among ch (loyal_chains n c m order S r g) → ((r ≡ 1) × ((g ≡ c) × (signed_alone order c ≡ ch))) ⊎ IsRelayed n c m S r g ch
unfolding loyal_chains
chains_out n c m order S zero g ch h = absurd h
chains_out n c m order S (suc zero) g ch h = inl (refl, own_more c order g ch (g == c) refl h)
chains_out n c m order S (suc (suc k)) g ch h = inr (relayed_more n c m S k g ch (g == c) refl (nat_le (suc k) m) refl h)

pub chains_size : (n c m order : ℕ) (S : Deliveries) (r g : ℕ) (ch : Chain) → Among ch (loyal_chains n c m order S r g) → length ch.signers ≡ r
chains_size n c m order S r g ch h = elim (chains_out n c m order S r g ch h) [
  | inl own ↦ let e : r ≡ 1 = own.0 in rw (e, ← own.1.1) refl
  | inr rel ↦ let size : length rel.held.signers ≡ suc rel.round = (added_out n S rel.round g rel.held rel.there).size in
      let e : r ≡ suc (suc rel.round) = rel.here in
      rw (e, ← rel.signed) (omega (arith, length-append rel.held.signers (g ∷ [])))
]

-- A chain that a loyal general sent is one that SM(m) has him sign, and its receiver has not signed it.
pub sent_out : (n c m order : ℕ) (S : Deliveries) (g : ℕ) → IsLoyal n c m order S g → (r q : ℕ) (ch : Chain) → q < n → Among ch (S r g q) → Among ch (loyal_chains n c m order S r g) × (on ch.signers q ≡ false)
sent_out n c m order S g loyal r q ch l h =
    let f = filter_out (λ x. not (on x.signers q)) (loyal_chains n c m order S r g) ch (rw (loyal r q l) at h) in
    (f.0, not-true (on ch.signers q) f.1)

-- He sent it to everybody who has not signed it.
pub sent_in : (n c m order : ℕ) (S : Deliveries) (g : ℕ) → IsLoyal n c m order S g → (r q : ℕ) (ch : Chain) → q < n → Among ch (loyal_chains n c m order S r g) → on ch.signers q ≡ false → Among ch (S r g q)
sent_in n c m order S g loyal r q ch l h o = rw (loyal r q l) (filter_in (λ x. not (on x.signers q)) (loyal_chains n c m order S r g) ch h (not_from_false (on ch.signers q) o))

-- A loyal general signs his own order, if he is the commander, or a chain that he holds.
pub loyal_signs : (n c m order : ℕ) (S : Deliveries) (r g : ℕ) (ch : Chain) → Among ch (loyal_chains n c m order S r g) → ((g ≡ c) × (ch.signers ≡ g ∷ [])) ⊎ IsPassedOn n S r g ch
loyal_signs n c m order S r g ch h =
    elim (chains_out n c m order S r g ch h) [
      | inl own ↦ inl (own.1.0, sym (ap (λ x. x.signers) own.1.1) ∙ ap (λ x. x ∷ []) (sym own.1.0))
      | inr rel ↦
          let k = added_out n S rel.round g rel.held rel.there in
          let from = came_out n S (suc rel.round) g rel.held k.came in
          let e : r ≡ suc (suc rel.round) = rel.here in
          inr (record { held = rel.held; there = record { round = suc rel.round; sender = from.0; earlier = omega arith; general = from.1.0; came = from.1.1 }; once = k.off; signed = sym rel.signed })
    ]

-- A loyal general signs only in his own name.
pub loyal_signed : (n c m order : ℕ) (S : Deliveries) (g : ℕ) → IsLoyal n c m order S g → SignsForHimself n c S g
loyal_signed n c m order S g loyal r p ch l h = loyal_signs n c m order S r g ch (sent_out n c m order S g loyal r p ch l h).0
