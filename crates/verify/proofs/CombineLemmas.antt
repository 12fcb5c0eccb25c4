-- An operation other than a move: its checks in order, and the new value of dst.
use Rattle.std.proofs.Common.{◌≡◌, ◌∙◌, ℕ, Bool, true, false, List, [], ◌∷◌, Option, Some, None, Result, Ok, Err, IfOk, refl, sym, ap}
use Rattle.std.specs.Prelude.{◌==◌, is_none, option_map, slice_set, if◌then◌else◌}
use Rattle.std.specs.Result.{result_err}
use Rattle.word.specs.declared.Width.{Width}
use Rattle.word.specs.declared.Operation.{Operation}
use Rattle.word.specs.declared.Operation.TheVariants.{Add, Sub, Mul, Div, SignedDiv, Or, And, ShiftLeft, ShiftRight, Mod, SignedMod, Xor, Move, ArithmeticShiftRight}
use Rattle.insn.specs.declared.insn.Insn.TheVariants.{Arithmetic}
use Rattle.insn.specs.declared.insn.Operand.{Operand}
use Rattle.absval.specs.declared.value.AbsVal.{AbsVal}
use Rattle.absval.specs.declared.value.AbsVal.TheVariants.{Unset, Number, Pointer}
use Rattle.absval.specs.Table.{computed, combined}
use Rattle.verify.specs.declared.reason.Reason.{Reason}
use Rattle.verify.specs.declared.reason.Reason.TheVariants as reason
use Rattle.verify.specs.declared.reason.Reason.TheVariants.{FrameWrite, PointerUse}
use Rattle.verify.specs.declared.state.AbsState.{AbsState}
use Rattle.verify.specs.Reasons.{first_reason, is_unset, made_checks, write_checks, unless, outcome}
use Rattle.verify.specs.Registers.{known_at, operand_known, first_known}
use Rattle.verify.specs.Transfer.{assigned, stepped}

-- The operation reads dst.
other_made : (w : Width) (operation : Operation) (known : List AbsVal) (dst : ℕ) (x : AbsVal) → (operation ≡ Move → ⊥) →
    combined w operation (known_at known dst) x ≡ computed w operation (first_known known operation dst) x
other_made w Add known dst x other = refl
other_made w Sub known dst x other = refl
other_made w Mul known dst x other = refl
other_made w Div known dst x other = refl
other_made w SignedDiv known dst x other = refl
other_made w Or known dst x other = refl
other_made w And known dst x other = refl
other_made w ShiftLeft known dst x other = refl
other_made w ShiftRight known dst x other = refl
other_made w Mod known dst x other = refl
other_made w SignedMod known dst x other = refl
other_made w Xor known dst x other = refl
other_made w Move known dst x other = absurd (other refl)
other_made w ArithmeticShiftRight known dst x other = refl

is_set : (a : AbsVal) → None ≡ first_reason ((is_unset a, reason.Unset) ∷ []) → is_unset a ≡ false
is_set Unset h = absurd cc
is_set (Number n) h = refl
is_set (Pointer region at) h = refl

passed : (b : Bool) (reason : Reason) → None ≡ first_reason ((b, reason) ∷ []) → b ≡ false
passed true reason h = absurd cc
passed false reason h = refl

-- Only the last check remains.
last_check : (dst : ℕ) (f s : AbsVal) (made : Option AbsVal) → None ≡ first_reason ((is_unset f, reason.Unset) ∷ []) → None ≡ first_reason ((is_unset s, reason.Unset) ∷ []) →
    None ≡ first_reason (write_checks dst) → (if is_none made then Some PointerUse else None) ≡ first_reason ((is_unset f, reason.Unset) ∷ made_checks dst s made)
last_check dst f s made set also writable =
    let e = is_set f set in
    let g = is_set s also in
    let h : (dst == 10) ≡ false = passed (dst == 10) FrameWrite writable in
    rw (e, g, h) refl

-- A register gets the result, or there was none.
takes : (a : AbsState) (dst : ℕ) (made : Option AbsVal) (r : Result (Unit {0}) Reason) (new : List AbsVal) → result_err r ≡ (if is_none made then Some PointerUse else None) →
    IfOk r (λ u. option_map (λ v. slice_set a.registers dst v) made ≡ Some new) → outcome r (record { registers = new; stack = a.stack }) ≡ unless (if is_none made then Some PointerUse else None) (assigned a dst made)
takes a dst None (Ok u) new e h = absurd cc
takes a dst None (Err reason) new e h = let same : reason ≡ PointerUse = cc in ap (λ (x : Reason). Err x) same
takes a dst (Some v) (Ok u) new e h =
    let same : slice_set a.registers dst v ≡ new = cc in
    ap (λ (x : List AbsVal). Ok (record { registers = x; stack = a.stack })) (sym same)
takes a dst (Some v) (Err reason) new e h = absurd cc

pub combine_left : (w : Width) (operation : Operation) (dst : ℕ) (operand : Operand) (a : AbsState) (f s : AbsVal) (new : List AbsVal) (r : Result (Unit {0}) Reason) → (operation ≡ Move → ⊥) →
    f ≡ first_known a.registers operation dst → s ≡ operand_known a.registers operand →
    None ≡ first_reason ((is_unset f, reason.Unset) ∷ []) → None ≡ first_reason ((is_unset s, reason.Unset) ∷ []) → None ≡ first_reason (write_checks dst) →
    result_err r ≡ (if is_none (combined w operation (known_at a.registers dst) s) then Some PointerUse else None) →
    IfOk r (λ u. option_map (λ v. slice_set a.registers dst v) (combined w operation (known_at a.registers dst) s) ≡ Some new) →
    outcome r (record { registers = new; stack = a.stack }) ≡ stepped (Arithmetic w operation dst operand) a
combine_left w operation dst operand a f s new r other e g set also writable refused written =
    let made : Option AbsVal = combined w operation (known_at a.registers dst) s in
    let same : made ≡ computed w operation (first_known a.registers operation dst) (operand_known a.registers operand) =
    other_made w operation a.registers dst s other ∙ ap (λ (x : AbsVal). computed w operation (first_known a.registers operation dst) x) g in
    takes a dst made r new refused written
    ∙ (ap (λ (o : Option Reason). unless o (assigned a dst made)) (last_check dst f s made set also writable)
    ∙ (λ i. unless (first_reason ((is_unset (e i), reason.Unset) ∷ made_checks dst (g i) (same i))) (assigned a dst (same i))))
