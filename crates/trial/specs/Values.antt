-- The texts of values in registers.
use Rattle.std.specs.Prelude.{ℕ, ℤ, ◌+ℤ◌, List, [], ◌++◌, codes, decimal}
use Rattle.std.specs.Fmt.{signed_decimal}
use Rattle.semantics.specs.declared.value.Region.{Region}
use Rattle.semantics.specs.declared.value.Region.TheVariants.{Stack, Context}
use Rattle.semantics.specs.declared.value.Value.{Value}
use Rattle.semantics.specs.declared.value.Value.TheVariants.{Unset, Number, Pointer}
use Rattle.semantics.specs.State.{value_at}
use Rattle.asm.specs.Printing.{register_text}

-- Returns the name of a region of memory.
abbrev pub region_text : Region → List ℕ
region_text Stack = codes "stack"
region_text Context = codes "context"

-- Writes a value: a number, a pointer's region and offset such as `stack -8`, or `unset`.
abbrev pub value_text : Value → List ℕ
value_text Unset = codes "unset"
value_text (Number n) = decimal n
value_text (Pointer region offset) = region_text region ++ codes " " ++ signed_decimal offset

-- Writes a register and its value, such as `r3 stack -8`.
abbrev pub register_told : List Value → ℕ → List ℕ
register_told registers r = register_text r ++ codes " " ++ value_text (value_at registers r)

-- Writes where a store writes, such as ` -> stack -8`, or nothing if its base is not a pointer.
abbrev pub place_told : ℤ → Value → List ℕ
place_told offset (Pointer region at) = codes " -> " ++ region_text region ++ codes " " ++ signed_decimal (at +ℤ offset)
place_told offset _ = []
