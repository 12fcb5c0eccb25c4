-- How many chains a general receives in a round, and how many he holds.
use Rattle.std.proofs.Common.{◌≡◌, ℕ, zero, suc, ◌+◌, ◌*◌, ◌<◌, ◌≤◌, Bool, true, false, not, cond, ◌&&◌, List, [], ◌∷◌, ◌++◌, map, length, refl, ap, ◌∙◌, arith, inl, inr, length-append, Option, None, Some}
use Rattle.std.specs.Prelude.{filter, flat_map, sum_by, ◌==◌}
use Rattle.std.specs.Int.{bit_at}
use Rattle.std.proofs.lemmas.Bool.{and_parts, not-true, or_right, eq-eqb}
use Rattle.std.proofs.lemmas.List.Concat.{length-flat_map}
use Rattle.std.proofs.lemmas.List.Sums.{sum_by-cons}
use Rattle.std.proofs.lemmas.List.FromFn.{length-range_with_len}
use Rattle.label.specs.Labels.{on, generals, others}
use Rattle.label.proofs.Counting.{on-push, on-filter, others-on, others-split, others-length}
use Rattle.label.proofs.Ranks.{all_kept}
use Rattle.signed.specs.Chains.{Chain, Among}
use Rattle.signed.specs.Accepted.{Deliveries, came, held, loyal_chains}
use Rattle.signed.specs.Entries.{Dispatch, Entry, receivers_in, chain_of, bits_of, sent_by as sent_of, dispatched, to_all_others, received}
use Rattle.round.specs.Scenario.{Scenario}
use Rattle.signed.specs.Sent.{Sent, sent_by, delivered, held_behind}
use Rattle.signed.specs.Contexts.{signed_context_numbers, signer_bits}
use Rattle.signed.proofs.Lists.{append_out}
use Rattle.signed.proofs.Along.{held_is}
use Rattle.signed.proofs.Dispatching.{received_out}
use Rattle.signed.proofs.Making.{IsMade, IsMadeOf}
use Rattle.signed.proofs.Forging.{made_signed, IsSignedBy}
use Rattle.signed.proofs.Fewness.{sent_few}

append_more : (p : ℕ) (x : Dispatch) (xs ys : List Dispatch) → received p (xs ++ ys) ≡ received p xs ++ received p ys → (b : Bool)
    → map (λ (z : Dispatch). z.chain) (cond b (x ∷ filter (λ z. on z.receivers p) (xs ++ ys)) (filter (λ z. on z.receivers p) (xs ++ ys))) ≡ map (λ (z : Dispatch). z.chain) (cond b (x ∷ filter (λ z. on z.receivers p) xs) (filter (λ z. on z.receivers p) xs)) ++ received p ys
append_more p x xs ys ih true = ap (λ zs. x.chain ∷ zs) ih
append_more p x xs ys ih false = ih

received_append : (p : ℕ) (xs ys : List Dispatch) → received p (xs ++ ys) ≡ received p xs ++ received p ys
received_append p [] ys = refl
received_append p (x ∷ xs) ys = append_more p x xs ys (received_append p xs ys) (on x.receivers p)

-- A receiver of a chain has not signed it.
off_one : (n p bits : ℕ) (k ch : Chain) (b : Bool) → on (receivers_in n bits k) p ≡ b → Among ch (map (λ (z : Dispatch). z.chain) (cond b (record { chain = k; receivers = receivers_in n bits k } ∷ []) [])) → on ch.signers p ≡ false
off_one n p bits k ch false e h = absurd h
off_one n p bits k ch true e h = elim h [
  | inl q ↦
      let f = on-filter (λ j. (bit_at bits j == 1) && not (on k.signers j)) (generals n) p e in
      let off : on k.signers p ≡ false = not-true (on k.signers p) (and_parts (bit_at bits p == 1) (not (on k.signers p)) f.1).1 in
      rw q at off
  | inr m ↦ absurd m
]

off_sent : (n p bits : ℕ) (o : Option Chain) (ch : Chain) → Among ch (received p (sent_of n o bits)) → on ch.signers p ≡ false
off_sent n p bits None ch h = absurd h
off_sent n p bits (Some k) ch h = off_one n p bits k ch (on (receivers_in n bits k) p) refl h

off_dispatched : (n c g p : ℕ) (held : List Chain) (es : List Entry) (ch : Chain) → Among ch (received p (dispatched n c g held es)) → on ch.signers p ≡ false
off_dispatched n c g p held [] ch h = absurd h
off_dispatched n c g p held (e ∷ es) ch h =
    let first = sent_of n (chain_of c g held e) (bits_of e) in
    let rest = dispatched n c g held es in
    elim (append_out (received p first) (received p rest) ch (rw (received_append p first rest) at h)) [
      | inl now ↦ off_sent n p (bits_of e) (chain_of c g held e) ch now
      | inr then ↦ off_dispatched n c g p held es ch then
    ]

off_other : (n p : ℕ) (x ch : Chain) (xs : List Chain) → (Among ch (received p (map (to_all_others n) xs)) → on ch.signers p ≡ false) → (b : Bool) → on (others n x.signers) p ≡ b
    → Among ch (map (λ (z : Dispatch). z.chain) (cond b (to_all_others n x ∷ filter (λ z. on z.receivers p) (map (to_all_others n) xs)) (filter (λ z. on z.receivers p) (map (to_all_others n) xs)))) → on ch.signers p ≡ false
off_other n p x ch xs ih false e h = ih h
off_other n p x ch xs ih true e h = elim h [
  | inl q ↦ let off : on x.signers p ≡ false = (others-on n x.signers p e).1 in rw q at off
  | inr m ↦ ih m
]

off_loyal : (n p : ℕ) (xs : List Chain) (ch : Chain) → Among ch (received p (map (to_all_others n) xs)) → on ch.signers p ≡ false
off_loyal n p [] ch h = absurd h
off_loyal n p (x ∷ xs) ch h = off_other n p x ch xs (off_loyal n p xs ch) (on (others n x.signers) p) refl h

received_off : (s : Scenario) (S : Deliveries) (r g p : ℕ) (xs : List Dispatch) (ch : Chain) → IsMadeOf s S r g xs → Among ch (received p xs) → on ch.signers p ≡ false
received_off s S r g p xs ch made h = elim made [
  | inl none ↦ absurd (let f : Among ch (received p []) = rw none at h in f)
  | inr some ↦ elim some [
    | inl t ↦ off_dispatched s.generals s.commander g p (held s.generals S r g) t.entries ch (rw t.sends at h)
    | inr y ↦ off_loyal s.generals p (loyal_chains s.generals s.commander s.bound s.order S r g) ch (rw y.sends at h)
  ]
]

ends_on : (n c : ℕ) (S : Deliveries) (r g : ℕ) (ch : Chain) → IsSignedBy n c S r g ch → on ch.signers g ≡ true
ends_on n c S r g ch signed = elim signed [
  | inl own ↦ rw own.1 (on-push [] g g ∙ or_right false (g == g) (eq-eqb g g refl))
  | inr pass ↦ rw pass.signed (on-push pass.held.signers g g ∙ or_right (on pass.held.signers g) (g == g) (eq-eqb g g refl))
]

empty_since : (xs : List Chain) → ((ch : Chain) → Among ch xs → ⊥) → xs ≡ []
empty_since [] h = refl
empty_since (x ∷ xs) h = absurd (h x (inl refl))

-- Nobody sends himself a chain.
received_own : (s : Scenario) (sent : Sent) → IsMade s sent → (r p : ℕ) → delivered sent r p p ≡ []
received_own s sent made r p = empty_since (delivered sent r p p) (λ ch h.
    let there = (made_signed s (delivered sent) r p (sent_by sent r p) ch (made r p) (received_out p (sent_by sent r p) ch h)).1 in
    let yes_on : on ch.signers p ≡ true = ends_on s.generals s.commander (delivered sent) r p ch there in
    let off : on ch.signers p ≡ false = received_off s (delivered sent) r p p (sent_by sent r p) ch (made r p) h in
    cc)

received_less_more : (p : ℕ) (x : Dispatch) (xs : List Dispatch) → length (received p xs) ≤ length xs → (b : Bool) → length (map (λ (z : Dispatch). z.chain) (cond b (x ∷ filter (λ z. on z.receivers p) xs) (filter (λ z. on z.receivers p) xs))) ≤ suc (length xs)
received_less_more p x xs ih true = omega arith
received_less_more p x xs ih false = omega arith

received_less : (p : ℕ) (xs : List Dispatch) → length (received p xs) ≤ length xs
received_less p [] = omega arith
received_less p (x ∷ xs) = received_less_more p x xs (received_less p xs) (on x.receivers p)

sum_few : (h : ℕ → ℕ) (xs : List ℕ) → ((x : ℕ) → h x ≤ 8) → sum_by h xs ≤ 8 * length xs
sum_few h [] few = omega arith
sum_few h (x ∷ xs) few = omega (arith, sum_by-cons h x xs, few x, sum_few h xs few)

-- A general receives at most eight chains from each of the others.
came_few : (s : Scenario) (sent : Sent) → IsMade s sent → (r p : ℕ) → p < s.generals → length (came s.generals (delivered sent) r p) + 8 ≤ 8 * s.generals
came_few s sent made r p pn =
    let n = s.generals in
    let h : ℕ → ℕ = λ g. length (delivered sent r g p) in
    let sum : length (came s.generals (delivered sent) r p) ≡ sum_by h (generals s.generals) = length-flat_map (λ g. delivered sent r g p) (generals s.generals) in
    let kept : sum_by h (others s.generals []) ≡ sum_by h (generals s.generals) = ap (sum_by h) (all_kept (generals s.generals)) in
    let split : sum_by h (others s.generals []) ≡ h p + sum_by h (others s.generals (p ∷ [])) = others-split h s.generals [] p pn refl in
    let none : h p ≡ 0 = ap length (received_own s sent made r p) in
    let rest : sum_by h (others s.generals (p ∷ [])) ≤ 8 * length (others s.generals (p ∷ [])) =
    sum_few h (others s.generals (p ∷ [])) (λ g. let a : length (delivered sent r g p) ≤ length (sent_by sent r g) = received_less p (sent_by sent r g) in let b : length (sent_by sent r g) ≤ 8 = sent_few s sent made r g in omega arith) in
    let all : length (others s.generals []) ≡ s.generals = ap length (all_kept (generals s.generals)) ∙ length-range_with_len 0 s.generals in
    let one : length (others s.generals []) ≡ 1 + length (others s.generals (p ∷ [])) = others-length s.generals [] p pn refl in
    omega arith

flat_none : (f : ℕ → List Chain) (gs : List ℕ) → ((g : ℕ) → f g ≡ []) → flat_map f gs ≡ []
flat_none f [] none = refl
flat_none f (g ∷ gs) none = rw (none g) (flat_none f gs none)

held_more : (s : Scenario) (sent : Sent) → IsMade s sent → s.generals ≤ 13 → (k p : ℕ) → p < s.generals → length (held s.generals (delivered sent) (suc k) p) ≤ 96 * k
unfolding held
held_more s sent made size zero p pn =
    let e : length (came s.generals (delivered sent) 0 p) ≡ 0 = ap length (flat_none (λ g. delivered sent 0 g p) (generals s.generals) (λ g. refl)) in
    omega arith
held_more s sent made size (suc k) p pn =
    omega (arith, length-append (held s.generals (delivered sent) (suc k) p) (came s.generals (delivered sent) (suc k) p), held_more s sent made size k p pn, came_few s sent made (suc k) p pn)

pub held_few : (s : Scenario) (sent : Sent) → IsMade s sent → s.generals ≤ 13 → s.bound ≤ 4 → length sent ≤ s.bound → (g : ℕ) → g < s.generals → length (held_behind s.generals sent g) ≤ 384
held_few s sent made size rounds within g gn =
    let e = ap length (held_is s.generals sent g) in
    omega (arith, held_more s sent made size (length sent) g gn)

pairs_length : (xs : List Chain) → length (flat_map (λ ch. ch.order ∷ signer_bits ch ∷ []) xs) ≡ 2 * length xs
pairs_length [] = refl
pairs_length (x ∷ xs) = omega (arith, pairs_length xs)

pub context_few : (s : Scenario) (sent : Sent) (round : ℕ) → IsMade s sent → s.generals ≤ 13 → s.bound ≤ 4 → length sent ≤ s.bound → (g : ℕ) → g < s.generals
    → 4 * length (signed_context_numbers s.generals s.bound s.commander g round (held_behind s.generals sent g)) ≤ 4096
context_few s sent round made size rounds within g gn =
    let few : length (held_behind s.generals sent g) ≤ 384 = held_few s sent made size rounds within g gn in
    let pairs : length (flat_map (λ ch. ch.order ∷ signer_bits ch ∷ []) (held_behind s.generals sent g)) ≡ 2 * length (held_behind s.generals sent g) = pairs_length (held_behind s.generals sent g) in
    omega arith
