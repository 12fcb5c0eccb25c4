-- The condition of a jump, and the bits of numbers that it uses.
use Rattle.std.proofs.Common.{◌≡◌, ℕ, List, Result, Ok, Bool, refl, ap, ◌∙◌, arith}
use Rattle.word.specs.declared.Width.{Width}
use Rattle.word.specs.declared.Width.TheVariants.{W32, W64}
use Rattle.word.specs.declared.Condition.{Condition}
use Rattle.word.specs.Arithmetic.{taken, related}
use Rattle.semantics.specs.declared.value.Value.{Value}
use Rattle.semantics.specs.declared.value.Value.TheVariants as value
use Rattle.semantics.specs.State.{Cause, value_at, operand_value}
use Rattle.semantics.specs.Step.{condition_of}
use Rattle.verify.specs.declared.comparison.Comparison.{Comparison}

-- The condition for the values of the registers.
abbrev pub decided_by : Comparison → List Value → Result Bool Cause
decided_by c vs = condition_of c.width c.condition (value_at vs c.dst) (operand_value vs c.operand)

-- The used bits of the used bits of a number are the same bits.
taken-twice : (w : Width) (n : ℕ) → taken w (taken w n) ≡ taken w n
taken-twice W32 n = grind arith
taken-twice W64 n = refl

condition_used : (w : Width) (c : Condition) (x : Value) (n : ℕ) → condition_of w c x (value.Number (taken w n)) ≡ condition_of w c x (value.Number n)
condition_used w c value.Unset n = refl
condition_used w c (value.Number m) n = ap (λ (k : ℕ). Ok (related w c (taken w m) k)) (taken-twice w n)
condition_used w c (value.Pointer region offset) n = refl

pub decided_used : (w : Width) (c : Condition) (x : Value) (m n : ℕ) (t : Bool) → m ≡ taken w n → condition_of w c x (value.Number n) ≡ Ok t → condition_of w c x (value.Number m) ≡ Ok t
decided_used w c x m n t same e = ap (λ (k : ℕ). condition_of w c x (value.Number k)) same ∙ (condition_used w c x n ∙ e)
