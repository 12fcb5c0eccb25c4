-- The results that were computed in parallel for many seeds.
use Rattle.std.proofs.Common.{ℕ, zero, suc, ◌+◌, ◌-◌, ◌<◌, ◌≤◌, ◌≡◌, ◌≢◌, List, [], ◌∷◌, length, get_or, map, subst, sym, arith, Ok, Err}
use Rattle.std.specs.Prelude.{IfErr, IfOk, MatchResult}
use Rattle.std.specs.Global.{Global}
use Rattle.std.specs.declared.result.Result.{Result}
use Rattle.std.specs.List.{AllZip, Contains, range_with_len}
use Rattle.std.proofs.Common.{Vec}
use Rattle.scenario.specs.declared.fault.ScenarioError.{ScenarioError}
use Rattle.scenario.specs.declared.fault.ScenarioError.TheVariants.{Memory}
use Rattle.surveys.specs.Family.{Family}
use Rattle.surveys.specs.Judging.{IsRefusedBy, IsRefusedIn}

-- If the result for a seed has a value, `R` holds of the seed and the value.
abbrev pub Gives : {X : Type 0} → (ℕ → X → Type 0) → ℕ → Result X ScenarioError → Type 0
Gives {X} R seed r = IfOk r (R seed)

all_good : {X : Type 0} (R : ℕ → X → Type 0) (seeds : List ℕ) (found : List X) → AllZip (Gives R) seeds (map Ok found) → AllZip R seeds found
all_good R [] [] h = tt
all_good R [] (f ∷ fs) h = absurd h
all_good R (s ∷ seeds) [] h = absurd h
all_good R (s ∷ seeds) (f ∷ fs) h = (h.0, all_good R seeds fs h.1)

-- If no result is an error, `R` holds of each seed and its value.
pub all_found : {X : Type 0} (R : ℕ → X → Type 0) (seeds : List ℕ) (rs : List (Result X ScenarioError)) (v : Result (Vec X Global) ScenarioError) → AllZip (Gives R) seeds rs
    → MatchResult v (λ c. (found : List X) × (rs ≡ map Ok found) × (c.items ≡ found)) (λ e. Contains rs (Err e)) → IfOk v (λ c. AllZip R seeds c.items)
all_found R seeds rs (Ok c) h m = subst (AllZip R seeds) (sym m.2) (all_good R seeds m.0 (subst (AllZip (Gives R) seeds) m.1 h))
all_found R seeds rs (Err e) h m = tt

-- `R` holds of a seed and the value of its result, or `Q` of the seed and the error.
abbrev pub Both : {X : Type 0} → (ℕ → X → Type 0) → (ℕ → ScenarioError → Type 0) → ℕ → Result X ScenarioError → Type 0
Both {X} R Q seed r = IfOk r (R seed) × IfErr r (Q seed)

pub goods : {X : Type 0} (R : ℕ → X → Type 0) (Q : ℕ → ScenarioError → Type 0) (seeds : List ℕ) (rs : List (Result X ScenarioError)) → AllZip (Both R Q) seeds rs → AllZip (Gives R) seeds rs
goods R Q [] [] h = tt
goods R Q [] (r ∷ rs) h = absurd h
goods R Q (s ∷ seeds) [] h = absurd h
goods R Q (s ∷ seeds) (r ∷ rs) h = (h.0.0, goods R Q seeds rs h.1)

-- An error among the results is the error of one of the seeds.
error_at : {X : Type 0} (R : ℕ → X → Type 0) (Q : ℕ → ScenarioError → Type 0) (a n : ℕ) (rs : List (Result X ScenarioError)) (e : ScenarioError) (k : ℕ)
    → k < length rs → get_or rs k (Err e) ≡ Err e → AllZip (Both R Q) (range_with_len a n) rs → (seed : ℕ) × (a ≤ seed) × (seed < a + n) × Q seed e
error_at R Q a zero [] e k lt at h = absurd (omega arith)
error_at R Q a zero (r ∷ rs) e k lt at h = absurd h
error_at R Q a (suc n) [] e k lt at h = absurd h
error_at R Q a (suc n) (r ∷ rs) e zero lt at h = (a, omega arith, omega arith, subst (λ x. IfErr x (Q a)) at h.0.1)
error_at R Q a (suc n) (r ∷ rs) e (suc k) lt at h =
    let w = error_at R Q (a + 1) n rs e k (omega arith) at h.1 in
    let low = w.1 in
    let high = w.2 in
    (w.0, omega arith, omega arith, w.3)

refused_at : {X : Type 0} (R : ℕ → X → Type 0) (f : Family) (a b : ℕ) (rs : List (Result X ScenarioError)) (e : ScenarioError)
    → AllZip (Both R (IsRefusedBy f)) (range_with_len a (b - a)) rs → Contains rs (Err e) → e ≢ Memory → IsRefusedIn f a b e
refused_at R f a b rs e h w other =
    let found = error_at R (IsRefusedBy f) a (b - a) rs e w.0 w.1 w.2 h in
    let low = found.1 in
    let high = found.2 in
    record { seed = found.0; behind = low; before = omega arith; refused = found.3 other }

-- If one of the results is an error, it is the fault of the text of a seed's campaign.
pub all_refused : {X : Type 0} (R : ℕ → X → Type 0) (f : Family) (a b : ℕ) (rs : List (Result X ScenarioError)) (v : Result (Vec X Global) ScenarioError) → AllZip (Both R (IsRefusedBy f)) (range_with_len a (b - a)) rs
    → MatchResult v (λ c. (found : List X) × (rs ≡ map Ok found) × (c.items ≡ found)) (λ e. Contains rs (Err e)) → IfErr v (λ e. e ≢ Memory → IsRefusedIn f a b e)
all_refused R f a b rs (Ok c) h m = tt
all_refused R f a b rs (Err e) h m = refused_at R f a b rs e h m
