-- Results of numbers are known to be numbers.
use Rattle.std.proofs.Common.{◌≡◌, ◌⊎◌, inl, inr, refl, true, false, Option, Some, None}
use Rattle.word.specs.declared.Width.{Width}
use Rattle.word.specs.declared.Operation.{Operation}
use Rattle.word.specs.declared.Operation.TheVariants.{Move}
use Rattle.absval.specs.declared.number_set.NumberSet.{NumberSet}
use Rattle.absval.specs.Table.{joined, computed, mapped}
use Rattle.absval.specs.Contains.{is_number}
use Rattle.absval.specs.declared.value.AbsVal.TheVariants.{Unset, Number, Pointer}
use Rattle.absval.specs.declared.value.AbsVal.{AbsVal}

abbrev pub AreNumbers : Option AbsVal → Type 0
AreNumbers None = ⊥
AreNumbers (Some e) = is_number e ≡ true

-- A join is known to be a number if both values are.
pub joined_numbers : (a b : AbsVal) → is_number (joined a b) ≡ false → (is_number a ≡ false) ⊎ (is_number b ≡ false)
joined_numbers Unset b h = inl refl
joined_numbers (Number m) Unset h = inr refl
joined_numbers (Number m) (Number n) h = absurd cc
joined_numbers (Number m) (Pointer region o) h = inr refl
joined_numbers (Pointer region o) b h = inl refl

pub computed_numbers : (w : Width) (operation : Operation) (a b : AbsVal) → is_number a ≡ true → is_number b ≡ true → AreNumbers (computed w operation a b)
computed_numbers w Move (Number m) (Number n) h k = refl
computed_numbers w operation (Number m) (Number n) h k = refl
computed_numbers w operation Unset b h k = absurd cc
computed_numbers w operation (Pointer region o) b h k = absurd cc
computed_numbers w operation (Number m) Unset h k = absurd cc
computed_numbers w operation (Number m) (Pointer region o) h k = absurd cc

pub mapped_numbers : (e : AbsVal) → is_number e ≡ true → (f : NumberSet → NumberSet) → AreNumbers (mapped f e)
mapped_numbers (Number n) h f = refl
mapped_numbers Unset h f = absurd cc
mapped_numbers (Pointer region o) h f = absurd cc
