-- A loyal general's entries send the chains that SM(m) has him sign.
use Rattle.std.proofs.Common.{◌≡◌, ℕ, zero, suc, ◌+◌, ◌<◌, Bool, true, false, not, cond, List, [], ◌∷◌, ◌++◌, map, length, refl, sym, ap, ◌∙◌, arith, Option, None, Some}
use Rattle.std.specs.Prelude.{filter, slice_get, nat_le, ◌==◌, ◌&&◌}
use Rattle.std.specs.Int.{bit_at}
use Rattle.std.proofs.lemmas.Bool.{and_parts, not-true, or_left, or_right, eq-eqb, eqb-true}
use Rattle.label.specs.Labels.{on, generals, others}
use Rattle.label.proofs.Counting.{range-on_within, others-distinct}
use Rattle.label.proofs.Ranks.{get_right}
use Rattle.signed.specs.Chains.{Chain, signed_also, signed_alone}
use Rattle.signed.specs.Accepted.{came, held, counts, firsts, accepted, loyal_chains}
use Rattle.signed.specs.Entries.{Dispatch, Sign, Pass, receivers_in, passed_on, chain_of, sent_by, dispatched, to_all_others}
use Rattle.signed.specs.Loyal.{bits_but, passes, loyal_entries, LoyalEntriesAreSent}
use Rattle.signed.proofs.Dispatching.{on_others}
use Rattle.signed.proofs.Signing.{bits_are}

-- Two tests that agree on a list keep the same elements.
kept_more : (p q : ℕ → Bool) (x : ℕ) (xs : List ℕ) → filter p xs ≡ filter q xs → (a b : Bool) → a ≡ b → cond a (x ∷ filter p xs) (filter p xs) ≡ cond b (x ∷ filter q xs) (filter q xs)
kept_more p q x xs ih true true e = ap (λ ys. x ∷ ys) ih
kept_more p q x xs ih false false e = ih
kept_more p q x xs ih true false e = absurd cc
kept_more p q x xs ih false true e = absurd cc

pub kept_alike : (p q : ℕ → Bool) (xs : List ℕ) → ((j : ℕ) → on xs j ≡ true → p j ≡ q j) → filter p xs ≡ filter q xs
kept_alike p q [] h = refl
kept_alike p q (x ∷ xs) h =
    kept_more p q x xs (kept_alike p q xs (λ j there. h j (or_right (x == j) (on xs j) there))) (p x) (q x) (h x (or_left (x == x) (on xs x) (eq-eqb x x refl)))

both_is : (b : Bool) → ((cond {A = ℕ} b 1 0 == 1) && b) ≡ b
both_is true = refl
both_is false = refl

-- The set of all others contains exactly the generals who have not signed.
named_at : (n : ℕ) (ch : Chain) (j : ℕ) → j < n → ((bit_at (bits_but n ch.signers) j == 1) && not (on ch.signers j)) ≡ not (on ch.signers j)
named_at n ch j lt =
    ap (λ (m : ℕ). (m == 1) && not (on ch.signers j)) (bits_are (others n ch.signers) j (others-distinct n ch.signers) ∙ ap (λ (b : Bool). cond {A = ℕ} b 1 0) (on_others n ch.signers j lt))
    ∙ both_is (not (on ch.signers j))

pub named_are : (n : ℕ) (ch : Chain) → receivers_in n (bits_but n ch.signers) ch ≡ others n ch.signers
named_are n ch = kept_alike (λ j. (bit_at (bits_but n ch.signers) j == 1) && not (on ch.signers j)) (λ j. not (on ch.signers j)) (generals n)
    (λ j there. named_at n ch j (let l = range-on_within 0 n j there in omega arith))

-- An entry that names all others sends the chain to them.
to_others : (n : ℕ) (ch : Chain) (o : Option Chain) → o ≡ Some ch → sent_by n o (bits_but n ch.signers) ≡ to_all_others n ch ∷ []
to_others n ch None e = absurd cc
to_others n ch (Some k) e = let same : k ≡ ch = cc in rw same (ap (λ (ps : List ℕ). record { chain = ch; receivers = ps } ∷ []) (named_are n ch))

prolonged : (ch : Chain) (g : ℕ) (b : Bool) → b ≡ false → cond b None (Some (signed_also ch g)) ≡ Some (signed_also ch g)
prolonged ch g true e = absurd cc
prolonged ch g false e = refl

passed : (n c g : ℕ) (H : List Chain) (place : ℕ) (ch : Chain) → slice_get H place ≡ Some ch → on ch.signers g ≡ false →
    sent_by n (chain_of c g H (Pass place (bits_but n (ch.signers ++ g ∷ [])))) (bits_but n (ch.signers ++ g ∷ [])) ≡ to_all_others n (signed_also ch g) ∷ []
passed n c g H place ch at off =
    to_others n (signed_also ch g) (passed_on g (slice_get H place)) (ap (passed_on g) at ∙ prolonged ch g (on ch.signers g) off)

abbrev Stand : List Chain → ℕ → List Chain → Type 0
Stand H place xs = (i : ℕ) → slice_get H (place + i) ≡ slice_get xs i

later : (H : List Chain) (place : ℕ) (ch : Chain) (xs : List Chain) → Stand H place (ch ∷ xs) → Stand H (suc place) xs
later H place ch xs at i = (let e : suc place + i ≡ place + suc i = omega arith in ap (λ (j : ℕ). slice_get H j) e ∙ at (suc i))

abbrev after : ℕ → ℕ → List Chain → List Dispatch
after n g xs = map (to_all_others n) (map (λ ch. signed_also ch g) xs)

module _ (n c g k : ℕ) (H : List Chain) where
  step : (place : ℕ) (seen : List ℕ) (ch : Chain) (xs : List Chain) → slice_get H place ≡ Some ch →
      ((seen : List ℕ) → dispatched n c g H (passes n k g (suc place) seen xs) ≡ after n g (firsts seen (filter (counts k g) xs))) →
      (a b : Bool) → counts k g ch ≡ a → on seen ch.order ≡ b →
      dispatched n c g H (cond (a && not b) (Pass place (bits_but n (ch.signers ++ g ∷ [])) ∷ passes n k g (suc place) (ch.order ∷ seen) xs) (passes n k g (suc place) seen xs))
      ≡ after n g (firsts seen (cond a (ch ∷ filter (counts k g) xs) (filter (counts k g) xs)))
  step place seen ch xs at ih false b e f = ih seen
  step place seen ch xs at ih true true e f =
      ih seen ∙ ap (λ (x : Bool). after n g (cond x (firsts seen (filter (counts k g) xs)) (ch ∷ firsts (ch.order ∷ seen) (filter (counts k g) xs)))) (sym f)
  step place seen ch xs at ih true false e f =
      let off : on ch.signers g ≡ false = not-true (on ch.signers g) (and_parts (length ch.signers == k) (not (on ch.signers g)) e).1 in
      let one = passed n c g H place ch at off in
      (λ i. one i ++ ih (ch.order ∷ seen) i)
      ∙ ap (λ (x : Bool). after n g (cond x (firsts seen (filter (counts k g) xs)) (ch ∷ firsts (ch.order ∷ seen) (filter (counts k g) xs)))) (sym f)

  passes_sent : (place : ℕ) (seen : List ℕ) (xs : List Chain) → Stand H place xs → dispatched n c g H (passes n k g place seen xs) ≡ after n g (firsts seen (filter (counts k g) xs))
  passes_sent place seen [] at = refl
  passes_sent place seen (ch ∷ xs) at =
      let here : slice_get H place ≡ Some ch = (let e : place ≡ place + 0 = omega arith in ap (λ (j : ℕ). slice_get H j) e ∙ at 0) in
      step place seen ch xs here (λ more. passes_sent (suc place) more xs (later H place ch xs at)) (counts k g ch) (on seen ch.order) refl refl

-- The commander's order in the first round.
first_sent : (n c order g : ℕ) (H : List Chain) (b : Bool) → (g == c) ≡ b →
    dispatched n c g H (cond b (Sign order (bits_but n (g ∷ [])) ∷ []) []) ≡ map (to_all_others n) (cond b (signed_alone order c ∷ []) [])
first_sent n c order g H false e = refl
first_sent n c order g H true e =
    let same : g ≡ c = eqb-true g c e in
    let begun : chain_of c g H (Sign order (bits_but n (g ∷ []))) ≡ Some (signed_alone order g) = ap (λ (b : Bool). cond b (Some (signed_alone order g)) None) e in
    ap (λ (ds : List Dispatch). ds ++ []) (to_others n (signed_alone order g) (chain_of c g H (Sign order (bits_but n (g ∷ [])))) begun)
    ∙ ap (λ (h : ℕ). to_all_others n (signed_alone order h) ∷ []) same

later_sent : (n c g k place : ℕ) (seen : List ℕ) (xs H : List Chain) → Stand H place xs → (a b : Bool) →
    dispatched n c g H (cond a [] (cond b (passes n k g place seen xs) []))
    ≡ map (to_all_others n) (cond a [] (cond b (map (λ ch. signed_also ch g) (firsts seen (filter (counts k g) xs))) []))
later_sent n c g k place seen xs H at true b = refl
later_sent n c g k place seen xs H at false false = refl
later_sent n c g k place seen xs H at false true = passes_sent n c g k H place seen xs at

pub proved_loyal_entries_are_sent : LoyalEntriesAreSent
unfolding held loyal_entries loyal_chains
proved_loyal_entries_are_sent n c m order S zero g = refl
proved_loyal_entries_are_sent n c m order S (suc zero) g = first_sent n c order g (held n S 1 g) (g == c) refl
proved_loyal_entries_are_sent n c m order S (suc (suc r)) g =
    later_sent n c g (suc r) (length (held n S (suc r) g)) (accepted n S r g) (came n S (suc r) g) (held n S (suc (suc r)) g)
    (λ i. get_right (held n S (suc r) g) (came n S (suc r) g) (length (held n S (suc r) g) + i) i refl)
    (g == c) (nat_le (suc r) m)
