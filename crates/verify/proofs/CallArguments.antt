-- Arguments that the verifier accepts do not trap.
use Rattle.std.proofs.Common.{◌≡◌, ℕ, ◌+◌, ◌<◌, ◌≤◌, List, [], ◌∷◌, Option, Some, None, Bool, true, false, refl, arith}
use Rattle.std.specs.Prelude.{Ok, Err, not, nat_lt, if◌then◌else◌}
use Rattle.std.specs.Option.{option_or}
use Rattle.std.proofs.lemmas.Bool.{lt-ltb, ltb-true}
use Rattle.semantics.specs.declared.value.Value.{Value}
use Rattle.semantics.specs.declared.value.Value.TheVariants as value
use Rattle.semantics.specs.declared.request.Helper.TheVariants.{BoardCopy, SendRow}
use Rattle.semantics.specs.State.{Cause, Argument as ArgumentCause, value_at}
use Rattle.semantics.specs.Call.{below}
use Rattle.absval.specs.declared.value.AbsVal.{AbsVal}
use Rattle.absval.specs.NumberSets.{greatest}
use Rattle.absval.specs.Contains.{Contains}
use Rattle.helper.specs.declared.argument.Argument.{Argument}
use Rattle.helper.specs.Table.{bound_of, arguments_of, refusal, test_of, or_else, refused}
use Rattle.verify.specs.declared.reason.Reason.{Reason}
use Rattle.verify.specs.Describes.{RegistersDescribe}
use Rattle.verify.specs.Calls.{reason_if, argument_reason, arguments_reason, IsBelow, IsPointer}
use Rattle.verify.proofs.Zips.{AllZip-at}
use Rattle.absval.specs.declared.value.AbsVal.TheVariants.{Unset, Number, Pointer}
use Rattle.verify.specs.Registers.{known_at}

pub or_parts : (a b : Option Reason) → option_or a b ≡ None → (a ≡ None) × (b ≡ None)
or_parts None b e = (refl, e)
or_parts (Some r) b e = cc

pub no_reason : (t : Bool) (r : Reason) → reason_if (not t) r ≡ None → t ≡ true
no_reason true r e = refl
no_reason false r e = cc

or_none : (a b : Option Cause) → a ≡ None → b ≡ None → or_else a b ≡ None
or_none None b e f = f
or_none (Some cause) b e f = cc

below_if : (t : Bool) (n : ℕ) → t ≡ true → refusal (if t then Ok n else Err ArgumentCause) ≡ None
below_if true n e = refl
below_if false n e = cc

below_fine : (bound n : ℕ) → n < bound → refusal (below bound (value.Number n)) ≡ None
below_fine bound n l = below_if (nat_lt n bound) n (lt-ltb n bound l)

argument_fine : (bound : Option ℕ) (a : AbsVal) (v : Value) → argument_reason bound a ≡ None → Contains a v → test_of bound v ≡ None
argument_fine bound Unset v e c = cc
argument_fine (Some bound) (Number numbers) value.Unset e c = absurd c
argument_fine (Some bound) (Number numbers) (value.Number n) e c =
    let less : greatest numbers < bound = ltb-true (greatest numbers) bound (no_reason (nat_lt (greatest numbers) bound) _ e) in
    let small : n ≤ greatest numbers = c.range.1 in
    below_fine bound n (omega arith)
argument_fine (Some bound) (Number numbers) (value.Pointer region offset) e c = absurd c
argument_fine None (Number numbers) v e c = cc
argument_fine (Some bound) (Pointer region offsets) v e c = cc
argument_fine None (Pointer region offsets) value.Unset e c = absurd c
argument_fine None (Pointer region offsets) (value.Number n) e c = absurd c
argument_fine None (Pointer region offsets) (value.Pointer other offset) e c = refl

-- A call traps for none of these arguments.
pub arguments_fine : (arguments : List (Option Argument)) (r : ℕ) (known : List AbsVal) (vs : List Value) → RegistersDescribe known vs → arguments_reason arguments r known ≡ None → refused arguments r vs ≡ None
arguments_fine [] r known vs d e = refl
arguments_fine (None ∷ arguments) r known vs d e = arguments_fine arguments (r + 1) known vs d e
arguments_fine (Some argument ∷ arguments) r known vs d e =
    let parts = or_parts (argument_reason (bound_of argument) (known_at known r)) (arguments_reason arguments (r + 1) known) e in
    or_none (test_of (bound_of argument) (value_at vs r)) (refused arguments (r + 1) vs)
    (argument_fine (bound_of argument) (known_at known r) (value_at vs r) parts.0 (AllZip-at Contains known vs r Unset value.Unset d tt))
    (arguments_fine arguments (r + 1) known vs d parts.1)

below_of : (bound : ℕ) (a : AbsVal) → argument_reason (Some bound) a ≡ None → IsBelow bound a
below_of bound Unset e = cc
below_of bound (Number numbers) e = ltb-true (greatest numbers) bound (no_reason (nat_lt (greatest numbers) bound) _ e)
below_of bound (Pointer region offsets) e = cc

pointer_of : (a : AbsVal) → argument_reason None a ≡ None → IsPointer a
pointer_of Unset e = cc
pointer_of (Number numbers) e = cc
pointer_of (Pointer region offsets) e = tt

-- What is known of the arguments of the helpers that take a pointer.
pub copy_arguments : (known : List AbsVal) → arguments_reason (arguments_of BoardCopy) 1 known ≡ None → IsBelow 64 (known_at known 1) × IsPointer (known_at known 2) × IsBelow 65 (known_at known 3)
copy_arguments known e =
    let first = or_parts (argument_reason (Some 64) (known_at known 1)) _ e in
    let second = or_parts (argument_reason None (known_at known 2)) _ first.1 in
    let third = or_parts (argument_reason (Some 65) (known_at known 3)) _ second.1 in
    (below_of 64 (known_at known 1) first.0, pointer_of (known_at known 2) second.0, below_of 65 (known_at known 3) third.0)

pub row_arguments : (known : List AbsVal) → arguments_reason (arguments_of SendRow) 1 known ≡ None → IsPointer (known_at known 2) × IsBelow 14 (known_at known 3)
row_arguments known e =
    let first = or_parts (argument_reason (Some 1016) (known_at known 1)) _ e in
    let second = or_parts (argument_reason None (known_at known 2)) _ first.1 in
    let third = or_parts (argument_reason (Some 14) (known_at known 3)) _ second.1 in
    (pointer_of (known_at known 2) second.0, below_of 14 (known_at known 3) third.0)
