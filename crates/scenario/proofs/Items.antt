-- The items of an array, one after the other, and a loop over its values.
use Rattle.std.proofs.Common.{◌≡◌, ℕ, zero, suc, ◌+◌, ◌<◌, ◌≤◌, List, [], ◌∷◌, length, drop, get_or, Result, Ok, Err, Some, refl, ap, sym, ◌∙◌, arith}
use Rattle.toml.proofs.Views.{items_view-drop}
use Rattle.toml.specs.Data.{Data, no_items, get_item}
use Rattle.toml.specs.View.{view, items_view}
use Rattle.toml.specs.declared.value.Value.{Value}
use Rattle.scenario.specs.declared.fault.ScenarioError.{ScenarioError}
use Rattle.scenario.specs.declared.fault.ScenarioError.TheVariants as errors
use Rattle.scenario.specs.Flaws.{Flaw, ◌>>=◌, Fails}
use Rattle.scenario.specs.Checks.{items_length, over}

pub items_length_view : (vs : List Value) → items_length (items_view vs) ≡ length vs
items_length_view [] = refl
items_length_view (v ∷ vs) = ap suc (items_length_view vs)

-- If the first check fails, both checks together fail with the same fault.
pub fails_on : {A B : Type 0} (e : ScenarioError) (r : Result A Flaw) (f : A → Result B Flaw) → Fails e r → Fails e (r >>= f)
fails_on errors.Memory r f h = absurd h
fails_on errors.Toml r f h = absurd h
fails_on (errors.Program g v) r f h = absurd h
fails_on (errors.Unknown i k) r f h = rw h refl
fails_on (errors.At g s) r f h = rw h refl

-- The fault of a check is also the fault of an equal check.
pub fails_same : {A : Type 0} (e : ScenarioError) (r s : Result A Flaw) → r ≡ s → Fails e r → Fails e s
fails_same e r s p h = rw p at h

over_item : {A : Type 0} (step : ℕ → A → Data → Result A Flaw) (i : ℕ) (x : A) (vs : List Value) (v : Value) → i < length vs → v ≡ get_or vs i v
    → over step i x (items_view (drop i vs)) ≡ (step i x (view v) >>= λ y. over step (i + 1) y (items_view (drop (i + 1) vs)))
unfolding over
over_item step i x vs v l e = rw (items_view-drop vs i v l, ← e) refl

-- One more item was read.
pub over_next : {A : Type 0} (step : ℕ → A → Data → Result A Flaw) (i : ℕ) (x y : A) (vs : List Value) (v : Value) (total : Result A Flaw) → i < length vs → v ≡ get_or vs i v
    → step i x (view v) ≡ Ok y → over step i x (items_view (drop i vs)) ≡ total → over step (i + 1) y (items_view (drop (i + 1) vs)) ≡ total
over_next step i x y vs v total l e s so_far = sym (over_item step i x vs v l e ∙ rw s refl) ∙ so_far

-- An item has a fault.
pub over_fails : {A : Type 0} (step : ℕ → A → Data → Result A Flaw) (i : ℕ) (x : A) (vs : List Value) (v : Value) (total : Result A Flaw) (err : ScenarioError) → i < length vs → v ≡ get_or vs i v
    → Fails err (step i x (view v)) → over step i x (items_view (drop i vs)) ≡ total → Fails err total
over_fails {A = A} step i x vs v total err l e s so_far =
    let rest : A → Result A Flaw = λ y. over step (i + 1) y (items_view (drop (i + 1) vs)) in
    fails_same err (step i x (view v) >>= rest) total (sym (over_item step i x vs v l e) ∙ so_far) (fails_on err (step i x (view v)) rest s)

pub drop_all : (i : ℕ) (vs : List Value) → length vs ≤ i → items_view (drop i vs) ≡ no_items
drop_all zero [] l = refl
drop_all zero (v ∷ vs) l = absurd (omega arith)
drop_all (suc i) [] l = refl
drop_all (suc i) (v ∷ vs) l = drop_all i vs (omega arith)

-- No item remains.
pub over_done : {A : Type 0} (step : ℕ → A → Data → Result A Flaw) (i : ℕ) (x : A) (vs : List Value) (total : Result A Flaw) → length vs ≤ i
    → over step i x (items_view (drop i vs)) ≡ total → total ≡ Ok x
unfolding over
over_done step i x vs total l so_far = sym so_far ∙ rw (drop_all i vs l) refl

-- The item at an index.
pub get_item_view : (i : ℕ) (vs : List Value) (v : Value) → i < length vs → v ≡ get_or vs i v → get_item i (items_view vs) ≡ Some (view v)
get_item_view i [] v l e = absurd (omega arith)
get_item_view zero (w ∷ vs) v l e = rw e refl
get_item_view (suc i) (w ∷ vs) v l e = get_item_view i vs v (omega arith) e

pub bind_ok : {A B : Type 0} (r : Result A Flaw) (f : A → Result B Flaw) (y : B) → (r >>= f) ≡ Ok y → (a : A) × ((r ≡ Ok a) × (f a ≡ Ok y))
bind_ok (Ok a) f y h = (a, (refl, h))
bind_ok (Err e) f y h = cc
