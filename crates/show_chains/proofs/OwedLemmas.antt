-- Which chains a loyal general must sign in each round.
use Rattle.std.proofs.Common.{ℕ, zero, suc, ◌+◌, ◌<◌, ◌≤◌, ◌≡◌, ◌≢◌, Bool, true, false, cond, List, [], ◌∷◌, ◌++◌, map, length, get_or, drop, take, refl, sym, ap, ◌∙◌, arith}
use Rattle.std.specs.Prelude.{◌==◌, nat_le}
use Rattle.std.specs.Borrow.{Bor}
use Rattle.std.proofs.Math.Seq.{drop-append_seam}
use Rattle.std.proofs.lemmas.Bool.{eq-eqb, le-leb, lt-leb, ne_eqb}
use Rattle.std.proofs.lemmas.List.{length-append, length-map, map-append, take_more}
use Rattle.signed.specs.Chains.{Chain, signed_alone, signed_also}
use Rattle.signed.specs.Accepted.{Deliveries, added, loyal_chains}
use Rattle.signed.specs.Explained.{bringing}
use Rattle.signed.specs.Sending.{lent}

-- There are none in round 0, before the first round.
pub owed_none : (n c m order : ℕ) (S : Deliveries) (r g : ℕ) → r ≡ 0 → [] ≡ loyal_chains n c m order S r g
unfolding loyal_chains
owed_none n c m order S zero g e = refl
owed_none n c m order S (suc r) g e = absurd (omega arith)

-- In round 1 the commander signs his order.
pub owed_first : (n c m order : ℕ) (S : Deliveries) (r g : ℕ) → r ≡ 1 → cond (g == c) (signed_alone order c ∷ []) [] ≡ loyal_chains n c m order S r g
unfolding loyal_chains
owed_first n c m order S zero g e = absurd (omega arith)
owed_first n c m order S (suc zero) g e = refl
owed_first n c m order S (suc (suc r)) g e = absurd (omega arith)

-- In a later round a lieutenant signs the chains by which he accepted orders in the round before.
pub owed_later : (n c m order : ℕ) (S : Deliveries) (r g k : ℕ) → r ≡ suc (suc k) → cond (g == c) [] (cond (nat_le (suc k) m) (map (λ ch. signed_also ch g) (added n S k g)) []) ≡ loyal_chains n c m order S r g
unfolding loyal_chains
owed_later n c m order S zero g k e = absurd (omega arith)
owed_later n c m order S (suc zero) g k e = absurd (omega arith)
owed_later n c m order S (suc (suc r)) g k e =
    let same : k ≡ r = omega arith in
    ap (λ (j : ℕ). cond (g == c) [] (cond (nat_le (suc j) m) (map (λ ch. signed_also ch g) (added n S j g)) [])) same

-- The commander signs nothing in later rounds.
pub later_commander : (g c k m : ℕ) (xs : List Chain) → g ≡ c → [] ≡ cond (g == c) [] (cond (nat_le (suc k) m) xs [])
later_commander g c k m xs e = sym (ap (λ b. cond b [] (cond (nat_le (suc k) m) xs [])) (eq-eqb g c e))

-- Nobody signs after round m + 1.
pub later_none : (g c k m : ℕ) (xs : List Chain) → m ≤ k → [] ≡ cond (g == c) [] (cond (nat_le (suc k) m) xs [])
later_none g c k m xs late = sym (ap (λ b. cond (g == c) [] (cond b xs [])) (lt-leb (suc k) m (omega arith)) ∙ nothing (g == c))
  where
    nothing : (b : Bool) → cond {A = List Chain} b [] [] ≡ []
    nothing true = refl
    nothing false = refl

pub later_some : (g c k m : ℕ) (xs : List Chain) → g ≢ c → k < m → xs ≡ cond (g == c) [] (cond (nat_le (suc k) m) xs [])
later_some g c k m xs ne soon =
    sym (ap (λ b. cond b [] (cond (nat_le (suc k) m) xs [])) (ne_eqb g c ne) ∙ ap (λ b. cond b xs []) (le-leb (suc k) m (omega arith)))

-- Dropping the first `k` references drops the first `k` chains.
lent_drop : (k : ℕ) (xs : List (Bor Chain)) → lent (drop k xs) ≡ drop k (lent xs)
lent_drop zero xs = refl
lent_drop (suc k) [] = refl
lent_drop (suc k) (x ∷ xs) = lent_drop k xs

-- The chains after those of the earlier rounds are those by which the general accepts orders in this round.
pub added_behind : (n : ℕ) (S : Deliveries) (r k g : ℕ) (before chains : List (Bor Chain)) → k ≡ suc r → lent before ≡ bringing n S r g → lent chains ≡ bringing n S k g →
    lent (drop (length before) chains) ≡ added n S r g
unfolding bringing
added_behind n S r k g before chains e first then =
    let long : length before ≡ length (bringing n S r g) = sym (length-map before (λ (c : Bor Chain). c.now)) ∙ ap length first in
    lent_drop (length before) chains
    ∙ (ap (λ xs. drop (length before) xs) (then ∙ ap (λ (j : ℕ). bringing n S j g) e)
    ∙ (ap (λ (j : ℕ). drop j (bringing n S r g ++ added n S r g)) long ∙ drop-append_seam (bringing n S r g) (added n S r g)))

pub fewer_before : (n : ℕ) (S : Deliveries) (r k g : ℕ) (before chains : List (Bor Chain)) → k ≡ suc r → lent before ≡ bringing n S r g → lent chains ≡ bringing n S k g →
    length before ≤ length chains
unfolding bringing
fewer_before n S r k g before chains e first then =
    let short : length before ≡ length (bringing n S r g) = sym (length-map before (λ (c : Bor Chain). c.now)) ∙ ap length first in
    let long : length chains ≡ length (bringing n S r g ++ added n S r g) = sym (length-map chains (λ (c : Bor Chain). c.now)) ∙ ap length (then ∙ ap (λ (j : ℕ). bringing n S j g) e) in
    let sum = length-append (bringing n S r g) (added n S r g) in
    omega arith

-- One more chain is signed by the general.
pub also_more : (g : ℕ) (xs : List (Bor Chain)) (now new : List Chain) (i : ℕ) (b : Bor Chain) → i < length xs → b ≡ get_or xs i b → now ≡ map (λ ch. signed_also ch g) (lent (take i xs))
    → new ≡ now ++ signed_also b.now g ∷ [] → new ≡ map (λ ch. signed_also ch g) (lent (take (i + 1) xs))
also_more g xs now new i b inside is first then =
    then
    ∙ (ap (λ ys. ys ++ signed_also b.now g ∷ []) first
    ∙ sym (ap (λ ys. map (λ ch. signed_also ch g) (lent ys)) (take_more xs i b inside ∙ ap (λ y. take i xs ++ y ∷ []) (sym is))
    ∙ (ap (map (λ ch. signed_also ch g)) (map-append (λ (c : Bor Chain). c.now) (take i xs) (b ∷ [])) ∙ map-append (λ ch. signed_also ch g) (lent (take i xs)) (b.now ∷ []))))

-- One more chain is copied.
pub one_more : (xs : List (Bor Chain)) (now new : List Chain) (i : ℕ) (b : Bor Chain) → i < length xs → b ≡ get_or xs i b → now ≡ lent (take i xs) → new ≡ now ++ b.now ∷ []
    → new ≡ lent (take (i + 1) xs)
one_more xs now new i b inside is first then =
    then
    ∙ (ap (λ ys. ys ++ b.now ∷ []) first
    ∙ sym (ap (λ (ys : List (Bor Chain)). lent ys) (take_more xs i b inside ∙ ap (λ y. take i xs ++ y ∷ []) (sym is)) ∙ map-append (λ (c : Bor Chain). c.now) (take i xs) (b ∷ [])))
