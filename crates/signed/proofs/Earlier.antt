-- What is held, accepted and signed in a round depends only on the rounds before it.
use Rattle.std.proofs.Common.{◌≡◌, ℕ, zero, suc, ◌<◌, ◌≤◌, cond, List, [], ◌∷◌, map, refl, ap, arith}
use Rattle.std.specs.Prelude.{filter, flat_map, nat_le, ◌==◌}
use Rattle.label.specs.Labels.{generals}
use Rattle.signed.specs.Chains.{Chain, signed_also}
use Rattle.signed.specs.Accepted.{Deliveries, came, held, counts, counted, accepted, added, loyal_chains}

-- States that the same chains are sent in the rounds before `k`.
abbrev pub AgreeBefore : ℕ → Deliveries → Deliveries → Type 0
AgreeBefore k S T = (r g p : ℕ) → r < k → S r g p ≡ T r g p

flat_same : (f h : ℕ → List Chain) (gs : List ℕ) → ((g : ℕ) → f g ≡ h g) → flat_map f gs ≡ flat_map h gs
flat_same f h [] e = refl
flat_same f h (g ∷ gs) e = rw (e g, flat_same f h gs e) refl

pub came_same : (n k : ℕ) (S T : Deliveries) (r p : ℕ) → AgreeBefore k S T → r < k → came n S r p ≡ came n T r p
came_same n k S T r p same l = flat_same (λ g. S r g p) (λ g. T r g p) (generals n) (λ g. same r g p l)

pub held_same : (n k : ℕ) (S T : Deliveries) (r p : ℕ) → AgreeBefore k S T → r ≤ k → held n S r p ≡ held n T r p
unfolding held
held_same n k S T zero p same l = refl
held_same n k S T (suc r) p same l = rw (held_same n k S T r p same (omega arith), came_same n k S T r p same (omega arith)) refl

counted_same : (n k : ℕ) (S T : Deliveries) (r p : ℕ) → AgreeBefore k S T → r < k → counted n S r p ≡ counted n T r p
counted_same n k S T r p same l = ap (filter (counts r p)) (came_same n k S T r p same l)

pub accepted_same : (n k : ℕ) (S T : Deliveries) (r p : ℕ) → AgreeBefore k S T → r < k → accepted n S r p ≡ accepted n T r p
unfolding accepted
accepted_same n k S T zero p same l = refl
accepted_same n k S T (suc r) p same l = rw (accepted_same n k S T r p same (omega arith), counted_same n k S T (suc r) p same l) refl

added_same : (n k : ℕ) (S T : Deliveries) (r p : ℕ) → AgreeBefore k S T → suc r < k → added n S r p ≡ added n T r p
added_same n k S T r p same l = rw (accepted_same n k S T r p same (omega arith), counted_same n k S T (suc r) p same l) refl

pub loyal_same : (n c m order k : ℕ) (S T : Deliveries) (r g : ℕ) → AgreeBefore k S T → r ≤ k → loyal_chains n c m order S r g ≡ loyal_chains n c m order T r g
unfolding loyal_chains
loyal_same n c m order k S T zero g same l = refl
loyal_same n c m order k S T (suc zero) g same l = refl
loyal_same n c m order k S T (suc (suc r)) g same l = ap (λ xs. cond (g == c) [] (cond (nat_le (suc r) m) (map (λ ch. signed_also ch g) xs) [])) (added_same n k S T r g same (omega arith))
