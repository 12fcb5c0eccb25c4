-- The first items of a list of values.
use Rattle.std.proofs.Common.{◌≡◌, ◌≤◌, ℕ, Some, false, zero, suc, List, [], ◌∷◌, ap, arith, length, refl, take}
use Rattle.toml.specs.Data.{item}
use Rattle.toml.specs.View.{items_view, view}
use Rattle.toml.specs.declared.value.Value.{Value}
use Rattle.scenario.specs.ReferenceNames.{first_items, is_nobodys}

pub all_items : (n : ℕ) (vs : List Value) → length vs ≤ n → items_view vs ≡ first_items n (items_view vs)
all_items n [] l = refl
all_items zero (v ∷ vs) l = absurd (omega arith)
all_items (suc n) (v ∷ vs) l = ap (item (view v)) (all_items n vs (omega arith))

pub taken_items : (n : ℕ) (vs : List Value) → items_view (take n vs) ≡ first_items n (items_view vs)
taken_items zero [] = refl
taken_items zero (v ∷ vs) = refl
taken_items (suc n) [] = refl
taken_items (suc n) (v ∷ vs) = ap (item (view v)) (taken_items n vs)

pub cut_items : (n : ℕ) (vs cut : List Value) → cut ≡ take n vs → items_view cut ≡ first_items n (items_view vs)
cut_items n vs cut is = rw is (taken_items n vs)

pub somebody : (vs : List Value) → 1 ≤ length vs → false ≡ is_nobodys (Some (items_view vs))
somebody [] l = absurd (omega arith)
somebody (v ∷ vs) l = refl
