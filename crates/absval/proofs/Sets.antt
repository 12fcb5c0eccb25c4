-- Numbers of one set that are all in another.
use Rattle.std.proofs.Common.{ℕ}
use Rattle.semantics.specs.declared.value.Value.{Value}
use Rattle.semantics.specs.declared.value.Value.TheVariants as value
use Rattle.absval.specs.declared.number_set.NumberSet.{NumberSet}
use Rattle.absval.specs.NumberSets.{Has}
use Rattle.absval.specs.Contains.{IsNumberOf}

pub all_numbers : (a b : NumberSet) → ((x : ℕ) → Has a x → Has b x) → (v : Value) → IsNumberOf a v → IsNumberOf b v
all_numbers a b f value.Unset h = h
all_numbers a b f (value.Number n) h = f n h
all_numbers a b f (value.Pointer region offset) h = h
