-- Lemmas about the unit to which a jump leads.
use Rattle.std.proofs.Common.{◌≡◌, ◌≢◌, ℕ, List, [], ◌∷◌, Bool, false, refl, subst}
use Rattle.std.specs.Prelude.{ℤ, pos, negsuc, slice_get}
use Rattle.reaching.specs.declared.mark.UnitMark.{UnitMark}
use Rattle.reaching.specs.declared.ways.Way.TheVariants.{End, One, Two}
use Rattle.reaching.specs.Marks.{is_open, open_at}
use Rattle.reaching.specs.Setters.{way_to}

pub open_there : (marks : List UnitMark) (z : ℤ) (n : ℕ) (b : Bool) → pos n ≡ z → b ≡ is_open (slice_get marks n) → b ≡ open_at marks z
open_there marks z n b e h = subst (λ (x : ℤ). b ≡ open_at marks x) e h

pub open_nowhere : (marks : List UnitMark) (z : ℤ) → ((n : ℕ) → pos n ≢ z) → false ≡ open_at marks z
open_nowhere marks (pos n) h = absurd (h n refl)
open_nowhere marks (negsuc n) h = refl

pub way_there : (z : ℤ) (n : ℕ) → pos n ≡ z → One n ≡ way_to (z ∷ [])
way_there z n e = subst (λ (x : ℤ). One n ≡ way_to (x ∷ [])) e refl

pub way_nowhere : (z : ℤ) → ((n : ℕ) → pos n ≢ z) → End ≡ way_to (z ∷ [])
way_nowhere (pos n) h = absurd (h n refl)
way_nowhere (negsuc n) h = refl

pub ways_there : (next : ℕ) (z : ℤ) (n : ℕ) → pos n ≡ z → Two next n ≡ way_to (pos next ∷ z ∷ [])
ways_there next z n e = subst (λ (x : ℤ). Two next n ≡ way_to (pos next ∷ x ∷ [])) e refl

pub ways_nowhere : (next : ℕ) (z : ℤ) → ((n : ℕ) → pos n ≢ z) → One next ≡ way_to (pos next ∷ z ∷ [])
ways_nowhere next (pos n) h = absurd (h n refl)
ways_nowhere next (negsuc n) h = refl
