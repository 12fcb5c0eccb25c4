-- Defines which values an abstract value contains.
use Rattle.std.specs.Prelude.{ℤ, ◌≡◌, ◌≤ℤ◌, Bool, true, false, Result, Ok, Err}
use Rattle.semantics.specs.declared.value.Region.{Region}
use Rattle.semantics.specs.declared.value.Value.{Value}
use Rattle.semantics.specs.declared.value.Value.TheVariants as value
use Rattle.semantics.specs.State.{Cause}
use Rattle.absval.specs.declared.number_set.NumberSet.{NumberSet}
use Rattle.absval.specs.NumberSets.{Has}
use Rattle.absval.specs.declared.value.AbsVal.{AbsVal}
use Rattle.absval.specs.declared.value.AbsVal.TheVariants.{Unset, Number, Pointer}

-- States that the value is a number in the set.
abbrev pub IsNumberOf : NumberSet → Value → Type 0
IsNumberOf numbers value.Unset = ⊥
IsNumberOf numbers (value.Number n) = Has numbers n
IsNumberOf numbers (value.Pointer region offset) = ⊥

-- States that the value is a pointer into the region, with an offset from `low` to `high`.
abbrev pub IsPointerIn : Region → ℤ → ℤ → Value → Type 0
IsPointerIn region low high value.Unset = ⊥
IsPointerIn region low high (value.Number n) = ⊥
IsPointerIn region low high (value.Pointer other offset) = (other ≡ region) × (low ≤ℤ offset) × (offset ≤ℤ high)

-- States that the abstract value contains the value. `Unset` contains every value.
abbrev pub Contains : AbsVal → Value → Type 0
Contains Unset v = Unit {0}
Contains (Number numbers) v = IsNumberOf numbers v
Contains (Pointer region offsets) v = IsPointerIn region offsets.0 offsets.1 v

-- States that a step has a result, and that the abstract value contains it.
abbrev pub Gives : AbsVal → Result Value Cause → Type 0
Gives a (Ok v) = Contains a v
Gives a (Err cause) = ⊥

-- Checks whether the value is known to be a number.
abbrev pub is_number : AbsVal → Bool
is_number Unset = false
is_number (Number r) = true
is_number (Pointer region offsets) = false
