-- The elements of an array, read one after another as the loop over its values does.
use Rattle.std.proofs.Common.{◌≡◌, ℕ, zero, suc, ◌+◌, ◌<◌, ◌≤◌, List, [], ◌∷◌, length, drop, get_or, Result, Ok, refl, ap, sym, ◌∙◌, arith}
use Rattle.toml.proofs.Views.{items_view-drop}
use Rattle.toml.specs.Data.{Data, no_items}
use Rattle.toml.specs.View.{view, items_view}
use Rattle.toml.specs.declared.value.Value.{Value}
use Rattle.trial.specs.declared.fault.SettingError.{SettingError}
use Rattle.trial.specs.declared.fault.SettingError.TheVariants as errors
use Rattle.trial.specs.Flaws.{Flaw, ◌>>=◌, Fails}
use Rattle.trial.specs.Checks.{items_length, over}

pub items_length_view : (vs : List Value) → items_length (items_view vs) ≡ length vs
items_length_view [] = refl
items_length_view (v ∷ vs) = ap suc (items_length_view vs)

-- Proves that a fault in the first of two checks is the fault of both.
pub fails_on : {A B : Type 0} (e : SettingError) (r : Result A Flaw) (f : A → Result B Flaw) → Fails e r → Fails e (r >>= f)
fails_on errors.Memory r f h = tt
fails_on errors.Toml r f h = absurd h
fails_on (errors.Unknown k) r f h = rw h refl
fails_on (errors.At g s) r f h = rw h refl

-- Proves that a fault of a result is a fault of an equal result.
pub fails_same : {A : Type 0} (e : SettingError) (r s : Result A Flaw) → r ≡ s → Fails e r → Fails e s
fails_same e r s p h = rw p at h

over_item : {A : Type 0} (step : ℕ → A → Data → Result A Flaw) (i : ℕ) (x : A) (vs : List Value) (v : Value) → i < length vs → v ≡ get_or vs i v
    → over step i x (items_view (drop i vs)) ≡ (step i x (view v) >>= λ y. over step (i + 1) y (items_view (drop (i + 1) vs)))
unfolding over
over_item step i x vs v l e = rw (items_view-drop vs i v l, ← e) refl

-- Proves that one more element has been read.
pub over_next : {A : Type 0} (step : ℕ → A → Data → Result A Flaw) (i : ℕ) (x y : A) (vs : List Value) (v : Value) (total : Result A Flaw) → i < length vs → v ≡ get_or vs i v
    → step i x (view v) ≡ Ok y → over step i x (items_view (drop i vs)) ≡ total → over step (i + 1) y (items_view (drop (i + 1) vs)) ≡ total
over_next step i x y vs v total l e s so_far = sym (over_item step i x vs v l e ∙ rw s refl) ∙ so_far

-- Proves that the fault of an element is the fault of the array.
pub over_fails : {A : Type 0} (step : ℕ → A → Data → Result A Flaw) (i : ℕ) (x : A) (vs : List Value) (v : Value) (total : Result A Flaw) (err : SettingError) → i < length vs → v ≡ get_or vs i v
    → Fails err (step i x (view v)) → over step i x (items_view (drop i vs)) ≡ total → Fails err total
over_fails {A = A} step i x vs v total err l e s so_far =
    let rest : A → Result A Flaw = λ y. over step (i + 1) y (items_view (drop (i + 1) vs)) in
    fails_same err (step i x (view v) >>= rest) total (sym (over_item step i x vs v l e) ∙ so_far) (fails_on err (step i x (view v)) rest s)

pub drop_all : (i : ℕ) (vs : List Value) → length vs ≤ i → items_view (drop i vs) ≡ no_items
drop_all zero [] l = refl
drop_all zero (v ∷ vs) l = absurd (omega arith)
drop_all (suc i) [] l = refl
drop_all (suc i) (v ∷ vs) l = drop_all i vs (omega arith)

-- Proves that the result is complete when no element is left.
pub over_done : {A : Type 0} (step : ℕ → A → Data → Result A Flaw) (i : ℕ) (x : A) (vs : List Value) (total : Result A Flaw) → length vs ≤ i
    → over step i x (items_view (drop i vs)) ≡ total → total ≡ Ok x
unfolding over
over_done step i x vs total l so_far = sym so_far ∙ rw (drop_all i vs l) refl
