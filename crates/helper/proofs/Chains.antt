-- Results, one after the other.
use Rattle.std.proofs.Common.{ℕ, ◌≡◌, ◌<◌, Bool, true, false, refl, ltb-true}
use Rattle.std.specs.Prelude.{Result, Ok, Err, if◌then◌else◌, nat_lt}
use Rattle.semantics.specs.declared.value.Value.{Value}
use Rattle.semantics.specs.declared.value.Value.TheVariants.{Unset, Number, Pointer}
use Rattle.semantics.specs.State.{Cause, Argument, given}
use Rattle.semantics.specs.Call.{below}

-- If a chain of results has a value, so had its first part.
pub given_ok : {A B : Type 0} (r : Result A Cause) (f : A → Result B Cause) (b : B) → given r f ≡ Ok b → (a : A) × (r ≡ Ok a) × (f a ≡ Ok b)
given_ok (Ok a) f b e = (a, refl, e)
given_ok (Err cause) f b e = cc

below_if : (t : Bool) (m n : ℕ) → (if t then Ok m else Err Argument) ≡ Ok n → (t ≡ true) × (m ≡ n)
below_if true m n e = (refl, cc)
below_if false m n e = cc

pub below_ok : (bound : ℕ) (v : Value) (n : ℕ) → below bound v ≡ Ok n → n < bound
below_ok bound Unset n e = cc
below_ok bound (Number m) n e =
    let both = below_if (nat_lt m bound) m n e in
    rw (← both.1) (ltb-true m bound both.0)
below_ok bound (Pointer region offset) n e = cc

abbrev okay : {A : Type 0} → A → Result A Cause
okay a = Ok a

pub ok_same : {A : Type 0} (a b : A) → okay a ≡ okay b → a ≡ b
ok_same a b e = cc
