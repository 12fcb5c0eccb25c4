-- Traitors and loyal decisions are counted general by general.
use Rattle.std.proofs.Common.{◌≡◌, ◌≢◌, ℕ, zero, suc, ◌+◌, ◌-◌, ◌<◌, ◌≤◌, List, [], ◌∷◌, ◌++◌, length, drop, Bool, true, false, not, cond, refl, sym, ap, subst, ◌∙◌, Option, Some, None, arith, append-nil, append_assoc, length-append}
use Rattle.std.specs.Prelude.{◌==◌, count_by, filter, slice_get}
use Rattle.std.specs.List.{range_with_len}
use Rattle.std.proofs.lemmas.Bool.{ne_eqb, eq-eqb}
use Rattle.std.proofs.lemmas.List.Sums.{sum_by-cons}
use Rattle.label.specs.Labels.{generals, on}
use Rattle.label.specs.Lieutenants.{lieutenants}
use Rattle.round.specs.Scenario.{Scenario, is_traitor}
use Rattle.world.specs.Chronicle.{of_loyal}
use Rattle.world.specs.Chronicle.{counted}

-- States that this many of the generals below `g` are traitors.
pub record HasCounted (s : Scenario) (g traitors : ℕ) : Type 0 where
  pub few : traitors ≤ g
  pub same : traitors + count_by (is_traitor s) (range_with_len g (s.generals - g)) ≡ count_by (is_traitor s) (generals s.generals)

pub range_cons : (n g : ℕ) → g < n → range_with_len g (n - g) ≡ g ∷ range_with_len (g + 1) (n - (g + 1))
range_cons n g l = (let e : n - g ≡ suc (n - (g + 1)) = omega arith in rw e refl)

pub range_none : (n g : ℕ) → n ≤ g → range_with_len g (n - g) ≡ []
range_none n g l = (let e : n - g ≡ 0 = omega arith in rw e refl)

pub counted_none : (s : Scenario) → HasCounted s 0 0
counted_none s = record { few = omega arith; same = (let e : s.generals - 0 ≡ s.generals = omega arith in rw e (omega arith)) }

count-cons_yes : (t : ℕ → Bool) (x : ℕ) (xs : List ℕ) → t x ≡ true → count_by t (x ∷ xs) ≡ 1 + count_by t xs
count-cons_yes t x xs h = sum_by-cons (λ y. cond (t y) 1 0) x xs ∙ rw h refl

count-cons_no : (t : ℕ → Bool) (x : ℕ) (xs : List ℕ) → t x ≡ false → count_by t (x ∷ xs) ≡ count_by t xs
count-cons_no t x xs h = sum_by-cons (λ y. cond (t y) 1 0) x xs ∙ rw h (omega arith)

pub counted_yes : (s : Scenario) (g t : ℕ) → HasCounted s g t → g < s.generals → is_traitor s g ≡ true → HasCounted s (g + 1) (t + 1)
counted_yes s g t h l is =
    let F : ℕ → Bool = is_traitor s in
    let e : count_by F (range_with_len g (s.generals - g)) ≡ 1 + count_by F (range_with_len (g + 1) (s.generals - (g + 1))) = ap (count_by F) (range_cons s.generals g l) ∙ count-cons_yes F g (range_with_len (g + 1) (s.generals - (g + 1))) is in
    record { few = (let f = h.few in omega arith); same = (let f = h.same in omega arith) }

pub counted_no : (s : Scenario) (g t : ℕ) → HasCounted s g t → g < s.generals → is_traitor s g ≡ false → HasCounted s (g + 1) t
counted_no s g t h l is =
    let F : ℕ → Bool = is_traitor s in
    let e : count_by F (range_with_len g (s.generals - g)) ≡ count_by F (range_with_len (g + 1) (s.generals - (g + 1))) = ap (count_by F) (range_cons s.generals g l) ∙ count-cons_no F g (range_with_len (g + 1) (s.generals - (g + 1))) is in
    record { few = (let f = h.few in omega arith); same = (let f = h.same in omega arith) }

pub counted_all : (s : Scenario) (g t : ℕ) → HasCounted s g t → s.generals ≤ g → t ≡ count_by (is_traitor s) (generals s.generals)
counted_all s g t h l =
    let e : count_by (is_traitor s) (range_with_len g (s.generals - g)) ≡ 0 = ap (count_by (is_traitor s)) (range_none s.generals g l) in
    let f = h.same in omega arith

-- Returns the lieutenants from general `g` on.
abbrev pub from : ℕ → ℕ → ℕ → List ℕ
from n c g = filter (λ j. not (on (c ∷ []) j)) (range_with_len g (n - g))

pub from_commander : (n c g : ℕ) → g < n → g ≡ c → from n c g ≡ from n c (g + 1)
from_commander n c g l e =
    let h : (c == g) ≡ true = eq-eqb c g (sym e) in
    rw (range_cons n g l) (rw h refl)

pub from_lieutenant : (n c g : ℕ) → g < n → g ≢ c → from n c g ≡ g ∷ from n c (g + 1)
from_lieutenant n c g l ne =
    let h : (c == g) ≡ false = ne_eqb c g (λ e. ne (sym e)) in
    rw (range_cons n g l) (rw h refl)

-- States that `loyal` are the loyal decisions of lieutenants below `g`, and that the next lieutenant's decision is at
-- index `place`.
pub record HasGathered (s : Scenario) (ds : List ℕ) (g place : ℕ) (loyal : List ℕ) : Type 0 where
  pub behind : place ≤ g
  pub few : length loyal ≤ g
  pub same : loyal ++ of_loyal s (from s.generals s.commander g) (drop place ds) ≡ of_loyal s (lieutenants s.generals s.commander) ds

pub gathered_none : (s : Scenario) (ds : List ℕ) → HasGathered s ds 0 0 []
gathered_none s ds = record { behind = omega arith; few = omega arith; same = (let e : s.generals - 0 ≡ s.generals = omega arith in rw e refl) }

pub gathered_commander : (s : Scenario) (ds : List ℕ) (g place : ℕ) (loyal : List ℕ) → HasGathered s ds g place loyal → g < s.generals → g ≡ s.commander → HasGathered s ds (g + 1) place loyal
gathered_commander s ds g place loyal h l e = record {
  behind = (let f = h.behind in omega arith);
  few = (let f = h.few in omega arith);
  same = ap (λ gs. loyal ++ of_loyal s gs (drop place ds)) (sym (from_commander s.generals s.commander g l e)) ∙ h.same;
}

of_loyal-nil : (s : Scenario) (gs : List ℕ) → of_loyal s gs [] ≡ []
of_loyal-nil s [] = refl
of_loyal-nil s (g ∷ gs) = refl

-- One more lieutenant is considered.
one_more : (s : Scenario) (g : ℕ) (gs ds : List ℕ) (place : ℕ) → of_loyal s (g ∷ gs) (drop place ds) ≡ counted s g (slice_get ds place) ++ of_loyal s gs (drop (suc place) ds)
one_more s g gs [] zero = sym (of_loyal-nil s gs)
one_more s g gs [] (suc place) = sym (of_loyal-nil s gs)
one_more s g gs (d ∷ ds) zero = elim (is_traitor s g) as (λ b. cond b (of_loyal s gs ds) (d ∷ of_loyal s gs ds) ≡ cond b [] (d ∷ []) ++ of_loyal s gs ds) [ true ↦ refl | false ↦ refl ]
one_more s g gs (d ∷ ds) (suc place) = one_more s g gs ds place

counted_few : (s : Scenario) (g : ℕ) (o : Option ℕ) → length (counted s g o) ≤ 1
counted_few s g None = omega arith
counted_few s g (Some d) = elim (is_traitor s g) as (λ b. length (cond b [] (d ∷ [])) ≤ 1) [ true ↦ omega arith | false ↦ omega arith ]

pub gathered_more : (s : Scenario) (ds : List ℕ) (g place : ℕ) (loyal next : List ℕ) → HasGathered s ds g place loyal → g < s.generals → g ≢ s.commander → next ≡ loyal ++ counted s g (slice_get ds place) → HasGathered s ds (g + 1) (place + 1) next
gathered_more s ds g place loyal next h l ne e =
    let rest : List ℕ = of_loyal s (from s.generals s.commander (g + 1)) (drop (suc place) ds) in
    let p : suc place ≡ place + 1 = omega arith in
    let here : of_loyal s (from s.generals s.commander g) (drop place ds) ≡ counted s g (slice_get ds place) ++ rest =
    ap (λ gs. of_loyal s gs (drop place ds)) (from_lieutenant s.generals s.commander g l ne) ∙ one_more s g (from s.generals s.commander (g + 1)) ds place in
    record {
      behind = (let f = h.behind in omega arith);
      few = (let f = h.few in let k = counted_few s g (slice_get ds place) in let z = ap length e in omega (arith, length-append loyal (counted s g (slice_get ds place))));
      same = subst (λ (q : ℕ). next ++ of_loyal s (from s.generals s.commander (g + 1)) (drop q ds) ≡ of_loyal s (lieutenants s.generals s.commander) ds) p (ap (λ xs. xs ++ rest) e ∙ (append_assoc loyal (counted s g (slice_get ds place)) rest ∙ (ap (λ xs. loyal ++ xs) (sym here) ∙ h.same)));
    }

pub gathered_all : (s : Scenario) (ds : List ℕ) (g place : ℕ) (loyal : List ℕ) → HasGathered s ds g place loyal → s.generals ≤ g → loyal ≡ of_loyal s (lieutenants s.generals s.commander) ds
gathered_all s ds g place loyal h l =
    let e : from s.generals s.commander g ≡ [] = ap (filter (λ j. not (on (s.commander ∷ []) j))) (range_none s.generals g l) in
    sym (append-nil loyal) ∙ (ap (λ gs. loyal ++ of_loyal s gs (drop place ds)) (sym e) ∙ h.same)
