-- The results of the campaigns of many seeds.
use Rattle.std.proofs.Common.{ℕ, zero, suc, ◌+◌, ◌-◌, ◌<◌, ◌≤◌, ◌≡◌, ◌≢◌, ◌∙◌, List, [], ◌∷◌, ◌++◌, ap, map, length, get_or, take, drop, subst, sym, arith, Ok, Err, Option, None, Some, ◌⊎◌, ⊎_elim}
use Rattle.std.specs.declared.result.Result.{Result}
use Rattle.std.specs.List.{All, AllZip, range_with_len}
use Rattle.std.proofs.lemmas.List.{length-map}
use Rattle.std.proofs.lemmas.List.Elements.{All-head, All-tail}
use Rattle.scenario.specs.declared.fault.ScenarioError.{ScenarioError}
use Rattle.scenario.specs.declared.fault.ScenarioError.TheVariants.{Memory}
use Rattle.surveys.specs.Plot.{Plot}
use Rattle.surveys.specs.declared.breach.Breach.{Breach}
use Rattle.surveys.specs.Shrinking.{ComesWell}
use Rattle.surveys.specs.Breaches.{AreAllSound, IsAnswerTo, IsFirstError, IsLeastBreach, IsRefusedIn, IsShrunk}

-- If no answer is an error, the values are right for their seeds.
all_good : (plots : ℕ → Plot) (seeds : List ℕ) (found : List (Option Breach)) → AllZip (IsAnswerTo plots) seeds (map Ok found) → AllZip (IsShrunk plots) seeds found
all_good plots [] [] h = tt
all_good plots [] (f ∷ fs) h = absurd h
all_good plots (s ∷ seeds) [] h = absurd h
all_good plots (s ∷ seeds) (f ∷ fs) h = (h.0.0, all_good plots seeds fs h.1)

pub all_found : (plots : ℕ → Plot) (seeds : List ℕ) (answers : List (Result (Option Breach) ScenarioError)) (found : List (Option Breach)) → AllZip (IsAnswerTo plots) seeds answers → answers ≡ map Ok found → AllZip (IsShrunk plots) seeds found
all_found plots seeds answers found h is = all_good plots seeds found (subst (AllZip (IsAnswerTo plots) seeds) is h)

-- A number that is at least `a` is `a` or greater.
pub first_or_later : (a seed : ℕ) → a ≤ seed → (a ≡ seed) ⊎ (a < seed)
first_or_later a seed low = grind arith

-- The error after answers without an error is the error of a seed, and no earlier seed has one.
error_at : (plots : ℕ → Plot) (a n : ℕ) (before : List (Option Breach)) (e : ScenarioError) (rest : List (Result (Option Breach) ScenarioError)) → e ≢ Memory
    → AllZip (IsAnswerTo plots) (range_with_len a n) (map Ok before ++ Err e ∷ rest) → IsRefusedIn plots a (a + n) e
error_at plots a zero [] e rest other h = absurd h
error_at plots a zero (o ∷ os) e rest other h = absurd h
error_at plots a (suc n) [] e rest other h = record {
  seed = a;
  behind = omega arith;
  before = omega arith;
  refused = h.0.1 other;
  earlier = λ s low high. absurd (omega (arith, low, high));
}
error_at plots a (suc n) (o ∷ os) e rest other h =
    let later = error_at plots (a + 1) n os e rest other h.1 in
    let low = later.behind in
    let high = later.before in
    record {
      seed = later.seed;
      behind = omega (arith, low);
      before = omega (arith, high);
      refused = later.refused;
      earlier = λ s from to. ⊎_elim (λ is. (o, subst (λ x. IsShrunk plots x o) is h.0.0)) (λ lt. later.earlier s (omega (arith, lt)) to) (first_or_later a s from);
    }

pub first_refused : (plots : ℕ → Plot) (first end : ℕ) (answers : List (Result (Option Breach) ScenarioError)) (e : ScenarioError) → e ≢ Memory
    → AllZip (IsAnswerTo plots) (range_with_len first (end - first)) answers → IsFirstError answers e → IsRefusedIn plots first end e
first_refused plots first end answers e other h is =
    let at = error_at plots first (end - first) is.0 e is.1 other (subst (AllZip (IsAnswerTo plots) (range_with_len first (end - first))) is.2 h) in
    let low = at.behind in
    let high = at.before in
    record { seed = at.seed; behind = low; before = omega (arith, low, high); refused = at.refused; earlier = at.earlier }

-- If the answers before this one have no error, this one is the first error.
behind_good : (found : List (Option Breach)) (answers : List (Result (Option Breach) ScenarioError)) (e : ScenarioError) → map Ok found ≡ take (length found) answers → length found < length answers
    → Err e ≡ get_or answers (length found) (Err e) → answers ≡ map Ok found ++ Err e ∷ drop (suc (length found)) answers
behind_good [] [] e so lt at = absurd (omega arith)
behind_good [] (r ∷ rs) e so lt at = ap (λ all. all ∷ rs) (sym at)
behind_good (o ∷ os) [] e so lt at = absurd (omega arith)
behind_good (o ∷ os) (r ∷ rs) e so lt at =
    let first : Ok o ≡ r = cc in
    let later : map Ok os ≡ take (length os) rs = cc in
    ap (λ x. x ∷ rs) (sym first) ∙ ap (λ xs. Ok o ∷ xs) (behind_good os rs e later (omega arith) at)

pub first_error : (found : List (Option Breach)) (answers taken : List (Result (Option Breach) ScenarioError)) (e : ScenarioError) → taken ≡ map Ok found → taken ≡ take (length taken) answers
    → length taken < length answers → Err e ≡ get_or answers (length taken) (Err e) → IsFirstError answers e
first_error found answers taken e is so lt at =
    let many : length taken ≡ length found = ap length is ∙ length-map found Ok in (
      found,
      drop (suc (length found)) answers,
      behind_good found answers e (sym is ∙ so ∙ ap (λ n. take n answers) many) (subst (λ n. n < length answers) many lt) (subst (λ n. Err e ≡ get_or answers n (Err e)) many at),
    )

-- If a seed has no reduced campaign, its campaign is not broken.
sound_one : (f : ℕ → Plot) (seed : ℕ) (o : Option Breach) → o ≡ None → IsShrunk f seed o → ComesWell (f seed)
sound_one f seed None e h = h
sound_one f seed (Some b) e h = absurd (cc)

all_sound : (f : ℕ → Plot) (a n : ℕ) (all : List (Option Breach)) → AllZip (IsShrunk f) (range_with_len a n) all → All (λ o. o ≡ None) all → (seed : ℕ) → a ≤ seed → seed < a + n → ComesWell (f seed)
all_sound f a zero all h none seed low high = absurd (omega arith)
all_sound f a (suc n) [] h none seed low high = absurd h
all_sound f a (suc n) (o ∷ os) h none seed low high = ⊎_elim
    (λ e. subst (λ x. ComesWell (f x)) e (sound_one f a o (All-head (λ o. o ≡ None) o os none) h.0))
    (λ lt. all_sound f (a + 1) n os h.1 (All-tail (λ o. o ≡ None) o os none) seed (omega arith) (omega arith))
    (first_or_later a seed low)

pub none_broken : (f : ℕ → Plot) (first end : ℕ) → IsLeastBreach f first end None → AreAllSound f first end
none_broken f first end h = λ seed low high. all_sound f first (end - first) h.all h.shrunk h.least seed low (omega arith)
