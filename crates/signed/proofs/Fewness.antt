-- A chain that counts began in the first round. So the accepted orders are among those that the commander signed then,
-- and are no more than his entries.
use Rattle.std.proofs.Common.{◌≡◌, ◌≢◌, ℕ, zero, suc, ◌<◌, ◌≤◌, Bool, true, false, not, cond, List, [], ◌∷◌, ◌++◌, map, length, refl, sym, ap, ◌∙◌, arith, inl, inr, length-append}
use Rattle.std.specs.Prelude.{nat_le, ◌==◌}
use Rattle.std.proofs.lemmas.Bool.{cases_eq, or_left, or_right, or_cases, and_parts, eq-eqb, eqb-true, not-true}
use Rattle.std.proofs.lemmas.List.{length-map}
use Rattle.label.specs.Labels.{on, is_distinct}
use Rattle.signed.specs.Chains.{Chain, Among, orders, signed_alone, signed_also}
use Rattle.signed.specs.Accepted.{Deliveries, held, counted, accepted, added, loyal_chains}
use Rattle.signed.specs.Agreement.{SignsForHimself}
use Rattle.signed.specs.Entries.{Entry, most_entries, to_all_others}
use Rattle.round.specs.Scenario.{Scenario}
use Rattle.signed.specs.Sent.{Sent, sent_by, delivered}
use Rattle.signed.specs.Laws.{chains_in}
use Rattle.signed.proofs.Lists.{orders_in, orders_out}
use Rattle.signed.proofs.Accepting.{came_out, added_out, accepted_out}
use Rattle.signed.proofs.Decided.{firsts_distinct, accepted_distinct}
use Rattle.signed.proofs.Dispatching.{received_out, dispatched_few}
use Rattle.signed.proofs.Making.{IsMade, of_entries, of_loyal}
use Rattle.signed.proofs.Forging.{all_signed}

-- A list without one of its elements.
without : (ys : List ℕ) (v : ℕ) → on ys v ≡ true → (zs : List ℕ) × ((length ys ≡ suc (length zs)) × ((w : ℕ) → on ys w ≡ true → w ≢ v → on zs w ≡ true))
without [] v h = absurd cc
without (y ∷ ys) v h = elim (cases_eq y v) [
  | inl e ↦ (ys, (refl, λ w k ne. elim (or_cases (y == w) (on ys w) k) [ inl here ↦ absurd (let q : y ≡ w = eqb-true y w here in ne (sym q ∙ e)) | inr there ↦ there ]))
  | inr ne ↦
      let there : on ys v ≡ true = elim (or_cases (y == v) (on ys v) h) [ inl here ↦ absurd (ne (eqb-true y v here)) | inr k ↦ k ] in
      let rest = without ys v there in
      (y ∷ rest.0, (ap suc rest.1.0, λ w k other. elim (or_cases (y == w) (on ys w) k) [ inl here ↦ or_left (y == w) (on rest.0 w) here | inr more ↦ or_right (y == w) (on rest.0 w) (rest.1.1 w more other) ]))
]

-- Different numbers that are all in a list are no more than the list's elements.
pub no_more : (xs ys : List ℕ) → is_distinct xs ≡ true → ((v : ℕ) → on xs v ≡ true → on ys v ≡ true) → length xs ≤ length ys
no_more [] ys d all = omega arith
no_more (x ∷ xs) ys d all =
    let parts = and_parts (not (on xs x)) (is_distinct xs) d in
    let rest = without ys x (all x (or_left (x == x) (on xs x) (eq-eqb x x refl))) in
    let lone : on xs x ≡ false = not-true (on xs x) parts.0 in
    let shorter : length xs ≤ length rest.0 = no_more xs rest.0 parts.1 (λ v k. rest.1.1 v (all v (or_right (x == v) (on xs v) k)) (λ e. let f : on xs x ≡ true = rw e at k in cc)) in
    omega (arith, rest.1.0)

-- States that a chain has at most as many signatures as rounds have begun, and that one with just as many began in the
-- first.
pub record IsTimely (n c : ℕ) (S : Deliveries) (r : ℕ) (ch : Chain) : Type 0 where
  pub short : length ch.signers ≤ r
  pub begun : length ch.signers ≡ r → (q : ℕ) × ((q < n) × Among (signed_alone ch.order c) (S 1 c q))

alone_is : (ch : Chain) (g c : ℕ) → g ≡ c → ch.signers ≡ g ∷ [] → ch ≡ signed_alone ch.order c
alone_is ch g c e s = ap {B = Chain} (λ ys. record { order = ch.order; signers = ys }) (s ∙ ap (λ x. x ∷ []) e)

pub timely : (n c : ℕ) (S : Deliveries) → ((g : ℕ) → g < n → SignsForHimself n c S g) → ((g p : ℕ) → S 0 g p ≡ []) → (b r : ℕ) → r < b → (g p : ℕ) (ch : Chain) → g < n → p < n → Among ch (S r g p) → IsTimely n c S r ch
timely n c S all none zero r lt g p ch gn pn there = absurd (omega arith)
timely n c S all none (suc b) zero lt g p ch gn pn there = absurd (let f : Among ch [] = rw (none g p) at there in f)
timely n c S all none (suc b) (suc r) lt g p ch gn pn there =
    elim (all g gn (suc r) p ch pn there) [
      | inl own ↦
          let one : length ch.signers ≡ 1 = ap length own.1 in
          record {
            short = omega arith;
            begun = λ e.
                let first : suc r ≡ 1 = sym e ∙ one in
                let same : ch ≡ signed_alone ch.order c = alone_is ch g c own.0 own.1 in
                (p, (pn, rw (← same, ← first, ← own.0) there));
          }
      | inr pass ↦
          let i = pass.there in
          let long : ch.signers ≡ pass.held.signers ++ g ∷ [] = ap (λ x. x.signers) pass.signed in
          let size : length ch.signers ≡ suc (length pass.held.signers) = ap length long ∙ omega (arith, length-append pass.held.signers (g ∷ [])) in
          let before = timely n c S all none b i.round (let e = i.earlier in omega arith) i.sender g pass.held i.general gn i.came in
          let o : pass.held.order ≡ ch.order = sym (ap (λ x. x.order) pass.signed) in
          record {
            short = (let e = i.earlier in let f = before.short in omega arith);
            begun = λ e. rw o at (before.begun (let l = i.earlier in let f = before.short in omega arith));
          }
    ]

-- Returns the orders that the commander signed in the first round.
abbrev pub first_orders : ℕ → Sent → List ℕ
first_orders c sent = orders (chains_in (sent_by sent 1 c))

pub counted_first : (s : Scenario) (sent : Sent) → IsMade s sent → (k p : ℕ) (ch : Chain) → p < s.generals → Among ch (added s.generals (delivered sent) k p) → on (first_orders s.commander sent) ch.order ≡ true
counted_first s sent made k p ch pn h =
    let counts = added_out s.generals (delivered sent) k p ch h in
    let from = came_out s.generals (delivered sent) (suc k) p ch counts.came in
    let t = timely s.generals s.commander (delivered sent) (all_signed s sent made) (λ g q. refl) (suc (suc k)) (suc k) (omega arith) from.0 p ch from.1.0 pn from.1.1 in
    let b = t.begun counts.size in
    orders_in (chains_in (sent_by sent 1 s.commander)) (signed_alone ch.order s.commander) (received_out b.0 (sent_by sent 1 s.commander) (signed_alone ch.order s.commander) b.1.1)

pub accepted_first : (s : Scenario) (sent : Sent) → IsMade s sent → (r p v : ℕ) → p < s.generals → on (accepted s.generals (delivered sent) r p) v ≡ true → on (first_orders s.commander sent) v ≡ true
accepted_first s sent made r p v pn h =
    let b = accepted_out s.generals (delivered sent) p v r h in
    rw b.brings at (counted_first s sent made b.round p b.chain pn b.there)

traitor_few : (s : Scenario) (S : Deliveries) (r g : ℕ) (entries : List Entry) → length entries ≤ most_entries → length (of_entries s S r g entries) ≤ most_entries
traitor_few s S r g entries few = omega (arith, dispatched_few s.generals s.commander g (held s.generals S r g) entries)

one_few : (c order g : ℕ) (b : Bool) → length (cond b (signed_alone order c ∷ []) []) ≤ 8
one_few c order g true = omega arith
one_few c order g false = omega arith

relayed_few : (g : ℕ) (xs : List Chain) (a b : Bool) → length xs ≤ 8 → length (cond a [] (cond b (map (λ ch. signed_also ch g) xs) [])) ≤ 8
relayed_few g xs true b few = omega arith
relayed_few g xs false false few = omega arith
relayed_few g xs false true few = let e : length (map (λ ch. signed_also ch g) xs) ≡ length xs = length-map xs (λ ch. signed_also ch g) in omega arith

orders_length : (xs : List Chain) → length (orders xs) ≡ length xs
orders_length xs = length-map xs (λ ch. ch.order)

-- The first chains bring different orders.
added_few : (n : ℕ) (S : Deliveries) (k g : ℕ) (L : List ℕ) → length L ≤ 8 → ((ch : Chain) → Among ch (added n S k g) → on L ch.order ≡ true) → length (added n S k g) ≤ 8
added_few n S k g L few all =
    let fewer : length (orders (added n S k g)) ≤ length L = no_more (orders (added n S k g)) L (firsts_distinct (accepted n S k g) (counted n S (suc k) g)) (λ v h. let o = orders_out (added n S k g) v h in rw o.1.1 at (all o.0 o.1.0)) in
    let e : length (orders (added n S k g)) ≡ length (added n S k g) = orders_length (added n S k g) in
    omega arith

loyal_few : (n c m order : ℕ) (S : Deliveries) (r g : ℕ) (L : List ℕ) → length L ≤ 8 → ((k : ℕ) (ch : Chain) → Among ch (added n S k g) → on L ch.order ≡ true) → length (loyal_chains n c m order S r g) ≤ 8
unfolding loyal_chains
loyal_few n c m order S zero g L few all = omega arith
loyal_few n c m order S (suc zero) g L few all = one_few c order g (g == c)
loyal_few n c m order S (suc (suc k)) g L few all = relayed_few g (added n S k g) (g == c) (nat_le (suc k) m) (added_few n S k g L few (all k))

all_others_length : (n : ℕ) (xs : List Chain) → length (map (to_all_others n) xs) ≡ length xs
all_others_length n xs = length-map xs (to_all_others n)

-- In the first round a loyal commander signs one order.
first_few : (s : Scenario) (S : Deliveries) (g : ℕ) → length (of_loyal s S 1 g) ≤ 8
unfolding loyal_chains
first_few s S g = let e : length (of_loyal s S 1 g) ≡ length (loyal_chains s.generals s.commander s.bound s.order S 1 g) = all_others_length s.generals (loyal_chains s.generals s.commander s.bound s.order S 1 g) in omega (arith, one_few s.commander s.order g (g == s.commander))

first_orders_few : (s : Scenario) (sent : Sent) → IsMade s sent → length (first_orders s.commander sent) ≤ 8
first_orders_few s sent made =
    let size : length (first_orders s.commander sent) ≡ length (sent_by sent 1 s.commander) = orders_length (chains_in (sent_by sent 1 s.commander)) ∙ length-map (sent_by sent 1 s.commander) (λ x. x.chain) in
    let few : length (sent_by sent 1 s.commander) ≤ 8 = elim (made 1 s.commander) [
      | inl none ↦ rw none (omega arith)
      | inr some ↦ elim some [
        | inl t ↦ rw t.sends (traitor_few s (delivered sent) 1 s.commander t.entries t.few)
        | inr y ↦ rw y.sends (first_few s (delivered sent) s.commander)
      ]
    ] in
    omega arith

-- Nobody accepts more than eight orders.
pub accepted_few : (s : Scenario) (sent : Sent) → IsMade s sent → (r p : ℕ) → p < s.generals → length (accepted s.generals (delivered sent) r p) ≤ 8
accepted_few s sent made r p pn =
    let fewer : length (accepted s.generals (delivered sent) r p) ≤ length (first_orders s.commander sent) =
    no_more (accepted s.generals (delivered sent) r p) (first_orders s.commander sent) (accepted_distinct s.generals (delivered sent) p r) (λ v h. accepted_first s sent made r p v pn h) in
    omega (arith, first_orders_few s sent made)

-- Nobody sends more than eight chains in a round.
pub sent_few : (s : Scenario) (sent : Sent) → IsMade s sent → (r g : ℕ) → length (sent_by sent r g) ≤ 8
sent_few s sent made r g = elim (made r g) [
  | inl none ↦ rw none (omega arith)
  | inr some ↦ elim some [
    | inl t ↦ rw t.sends (traitor_few s (delivered sent) r g t.entries t.few)
    | inr y ↦
        let few : length (loyal_chains s.generals s.commander s.bound s.order (delivered sent) r g) ≤ 8 =
        loyal_few s.generals s.commander s.bound s.order (delivered sent) r g (first_orders s.commander sent) (first_orders_few s sent made) (λ k ch h. counted_first s sent made k g ch y.general h) in
        rw y.sends (let e = all_others_length s.generals (loyal_chains s.generals s.commander s.bound s.order (delivered sent) r g) in omega arith)
  ]
]
