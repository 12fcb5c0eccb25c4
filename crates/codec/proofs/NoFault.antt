-- What is spelled has no fault. Written by checks/generate: a case for each opcode, and more where an operand chooses.
use Rattle.std.proofs.Common.{◌≡◌, ◌≤◌, ℕ, List, [], ◌∷◌, false, Option, None, length, refl, subst}
use Rattle.std.specs.Prelude.{nat_lt}
use Rattle.std.proofs.lemmas.Bool.{le-ltb}
use Rattle.word.specs.declared.Width.TheVariants.{W32, W64}
use Rattle.word.specs.declared.Operation.TheVariants as op
use Rattle.word.specs.declared.Condition.TheVariants as c
use Rattle.word.specs.declared.Narrow.TheVariants as narrow
use Rattle.word.specs.declared.SwapSize.TheVariants as swap
use Rattle.word.specs.declared.ByteOrder.TheVariants as order
use Rattle.insn.specs.declared.insn.Insn.{Insn}
use Rattle.insn.specs.declared.insn.Insn.TheVariants as i
use Rattle.insn.specs.declared.insn.Operand.TheVariants.{Register, Immediate}
use Rattle.insn.specs.declared.insn.Size.TheVariants as size
use Rattle.insn.specs.Insn.{IsInsn}
use Rattle.codec.specs.declared.fault.CodecFault.{CodecFault}
use Rattle.codec.specs.declared.fault.CodecFault.TheVariants as faults
use Rattle.codec.specs.declared.fields.Fields.{Fields}
use Rattle.codec.specs.Spelling.{spelling}
use Rattle.codec.specs.Reading.{is_past, first_fault, is_reserved_set, fault_in, AreUnits}

pub none_past : (r : ℕ) → r ≤ 10 → is_past r ≡ false
none_past r le = le-ltb 10 r le

along : (f g : Fields) (behind : List ℕ) → f ≡ g → fault_in f behind ≡ None → fault_in g behind ≡ None
along f g behind same none = subst (λ (h : Fields). fault_in h behind ≡ None) same none

abbrev second_half : Fields → Option CodecFault
second_half g = first_fault ((is_reserved_set g, faults.Reserved) ∷ [])

pub no_fault : (insn : Insn) (f : Fields) (behind : List ℕ) → IsInsn insn → AreUnits (spelling insn) f behind → fault_in f behind ≡ None
no_fault (i.Arithmetic W64 op.Add dst (Immediate n)) f behind p u = along _ f behind u (rw (none_past dst p.0) refl)
no_fault (i.Arithmetic W64 op.Add dst (Register src)) f behind p u = along _ f behind u (rw (none_past dst p.0, none_past src p.1) refl)
no_fault (i.Arithmetic W64 op.Sub dst (Immediate n)) f behind p u = along _ f behind u (rw (none_past dst p.0) refl)
no_fault (i.Arithmetic W64 op.Sub dst (Register src)) f behind p u = along _ f behind u (rw (none_past dst p.0, none_past src p.1) refl)
no_fault (i.Arithmetic W64 op.Mul dst (Immediate n)) f behind p u = along _ f behind u (rw (none_past dst p.0) refl)
no_fault (i.Arithmetic W64 op.Mul dst (Register src)) f behind p u = along _ f behind u (rw (none_past dst p.0, none_past src p.1) refl)
no_fault (i.Arithmetic W64 op.Div dst (Immediate n)) f behind p u = along _ f behind u (rw (none_past dst p.0) refl)
no_fault (i.Arithmetic W64 op.Div dst (Register src)) f behind p u = along _ f behind u (rw (none_past dst p.0, none_past src p.1) refl)
no_fault (i.Arithmetic W64 op.SignedDiv dst (Immediate n)) f behind p u = along _ f behind u (rw (none_past dst p.0) refl)
no_fault (i.Arithmetic W64 op.SignedDiv dst (Register src)) f behind p u = along _ f behind u (rw (none_past dst p.0, none_past src p.1) refl)
no_fault (i.Arithmetic W64 op.Or dst (Immediate n)) f behind p u = along _ f behind u (rw (none_past dst p.0) refl)
no_fault (i.Arithmetic W64 op.Or dst (Register src)) f behind p u = along _ f behind u (rw (none_past dst p.0, none_past src p.1) refl)
no_fault (i.Arithmetic W64 op.And dst (Immediate n)) f behind p u = along _ f behind u (rw (none_past dst p.0) refl)
no_fault (i.Arithmetic W64 op.And dst (Register src)) f behind p u = along _ f behind u (rw (none_past dst p.0, none_past src p.1) refl)
no_fault (i.Arithmetic W64 op.ShiftLeft dst (Immediate n)) f behind p u = along _ f behind u (rw (none_past dst p.0) refl)
no_fault (i.Arithmetic W64 op.ShiftLeft dst (Register src)) f behind p u = along _ f behind u (rw (none_past dst p.0, none_past src p.1) refl)
no_fault (i.Arithmetic W64 op.ShiftRight dst (Immediate n)) f behind p u = along _ f behind u (rw (none_past dst p.0) refl)
no_fault (i.Arithmetic W64 op.ShiftRight dst (Register src)) f behind p u = along _ f behind u (rw (none_past dst p.0, none_past src p.1) refl)
no_fault (i.Arithmetic W64 op.Mod dst (Immediate n)) f behind p u = along _ f behind u (rw (none_past dst p.0) refl)
no_fault (i.Arithmetic W64 op.Mod dst (Register src)) f behind p u = along _ f behind u (rw (none_past dst p.0, none_past src p.1) refl)
no_fault (i.Arithmetic W64 op.SignedMod dst (Immediate n)) f behind p u = along _ f behind u (rw (none_past dst p.0) refl)
no_fault (i.Arithmetic W64 op.SignedMod dst (Register src)) f behind p u = along _ f behind u (rw (none_past dst p.0, none_past src p.1) refl)
no_fault (i.Arithmetic W64 op.Xor dst (Immediate n)) f behind p u = along _ f behind u (rw (none_past dst p.0) refl)
no_fault (i.Arithmetic W64 op.Xor dst (Register src)) f behind p u = along _ f behind u (rw (none_past dst p.0, none_past src p.1) refl)
no_fault (i.Arithmetic W64 op.Move dst (Immediate n)) f behind p u = along _ f behind u (rw (none_past dst p.0) refl)
no_fault (i.Arithmetic W64 op.Move dst (Register src)) f behind p u = along _ f behind u (rw (none_past dst p.0, none_past src p.1) refl)
no_fault (i.Arithmetic W64 op.ArithmeticShiftRight dst (Immediate n)) f behind p u = along _ f behind u (rw (none_past dst p.0) refl)
no_fault (i.Arithmetic W64 op.ArithmeticShiftRight dst (Register src)) f behind p u = along _ f behind u (rw (none_past dst p.0, none_past src p.1) refl)
no_fault (i.Negate W64 dst) f behind p u = along _ f behind u (rw (none_past dst p) refl)
no_fault (i.SignExtend W64 narrow.Byte dst src) f behind p u = along _ f behind u (rw (none_past dst p.1, none_past src p.2) refl)
no_fault (i.SignExtend W64 narrow.Half dst src) f behind p u = along _ f behind u (rw (none_past dst p.1, none_past src p.2) refl)
no_fault (i.SignExtend W64 narrow.Word dst src) f behind p u = along _ f behind u (rw (none_past dst p.1, none_past src p.2) refl)
no_fault (i.Branch W64 c.Equal dst (Immediate n) distance) f behind p u = along _ f behind u (rw (none_past dst p.0) refl)
no_fault (i.Branch W64 c.Equal dst (Register src) distance) f behind p u = along _ f behind u (rw (none_past dst p.0, none_past src p.1) refl)
no_fault (i.Branch W64 c.Above dst (Immediate n) distance) f behind p u = along _ f behind u (rw (none_past dst p.0) refl)
no_fault (i.Branch W64 c.Above dst (Register src) distance) f behind p u = along _ f behind u (rw (none_past dst p.0, none_past src p.1) refl)
no_fault (i.Branch W64 c.AtLeast dst (Immediate n) distance) f behind p u = along _ f behind u (rw (none_past dst p.0) refl)
no_fault (i.Branch W64 c.AtLeast dst (Register src) distance) f behind p u = along _ f behind u (rw (none_past dst p.0, none_past src p.1) refl)
no_fault (i.Branch W64 c.AnyBit dst (Immediate n) distance) f behind p u = along _ f behind u (rw (none_past dst p.0) refl)
no_fault (i.Branch W64 c.AnyBit dst (Register src) distance) f behind p u = along _ f behind u (rw (none_past dst p.0, none_past src p.1) refl)
no_fault (i.Branch W64 c.NotEqual dst (Immediate n) distance) f behind p u = along _ f behind u (rw (none_past dst p.0) refl)
no_fault (i.Branch W64 c.NotEqual dst (Register src) distance) f behind p u = along _ f behind u (rw (none_past dst p.0, none_past src p.1) refl)
no_fault (i.Branch W64 c.SignedAbove dst (Immediate n) distance) f behind p u = along _ f behind u (rw (none_past dst p.0) refl)
no_fault (i.Branch W64 c.SignedAbove dst (Register src) distance) f behind p u = along _ f behind u (rw (none_past dst p.0, none_past src p.1) refl)
no_fault (i.Branch W64 c.SignedAtLeast dst (Immediate n) distance) f behind p u = along _ f behind u (rw (none_past dst p.0) refl)
no_fault (i.Branch W64 c.SignedAtLeast dst (Register src) distance) f behind p u = along _ f behind u (rw (none_past dst p.0, none_past src p.1) refl)
no_fault (i.Branch W64 c.Below dst (Immediate n) distance) f behind p u = along _ f behind u (rw (none_past dst p.0) refl)
no_fault (i.Branch W64 c.Below dst (Register src) distance) f behind p u = along _ f behind u (rw (none_past dst p.0, none_past src p.1) refl)
no_fault (i.Branch W64 c.AtMost dst (Immediate n) distance) f behind p u = along _ f behind u (rw (none_past dst p.0) refl)
no_fault (i.Branch W64 c.AtMost dst (Register src) distance) f behind p u = along _ f behind u (rw (none_past dst p.0, none_past src p.1) refl)
no_fault (i.Branch W64 c.SignedBelow dst (Immediate n) distance) f behind p u = along _ f behind u (rw (none_past dst p.0) refl)
no_fault (i.Branch W64 c.SignedBelow dst (Register src) distance) f behind p u = along _ f behind u (rw (none_past dst p.0, none_past src p.1) refl)
no_fault (i.Branch W64 c.SignedAtMost dst (Immediate n) distance) f behind p u = along _ f behind u (rw (none_past dst p.0) refl)
no_fault (i.Branch W64 c.SignedAtMost dst (Register src) distance) f behind p u = along _ f behind u (rw (none_past dst p.0, none_past src p.1) refl)
no_fault (i.Arithmetic W32 op.Add dst (Immediate n)) f behind p u = along _ f behind u (rw (none_past dst p.0) refl)
no_fault (i.Arithmetic W32 op.Add dst (Register src)) f behind p u = along _ f behind u (rw (none_past dst p.0, none_past src p.1) refl)
no_fault (i.Arithmetic W32 op.Sub dst (Immediate n)) f behind p u = along _ f behind u (rw (none_past dst p.0) refl)
no_fault (i.Arithmetic W32 op.Sub dst (Register src)) f behind p u = along _ f behind u (rw (none_past dst p.0, none_past src p.1) refl)
no_fault (i.Arithmetic W32 op.Mul dst (Immediate n)) f behind p u = along _ f behind u (rw (none_past dst p.0) refl)
no_fault (i.Arithmetic W32 op.Mul dst (Register src)) f behind p u = along _ f behind u (rw (none_past dst p.0, none_past src p.1) refl)
no_fault (i.Arithmetic W32 op.Div dst (Immediate n)) f behind p u = along _ f behind u (rw (none_past dst p.0) refl)
no_fault (i.Arithmetic W32 op.Div dst (Register src)) f behind p u = along _ f behind u (rw (none_past dst p.0, none_past src p.1) refl)
no_fault (i.Arithmetic W32 op.SignedDiv dst (Immediate n)) f behind p u = along _ f behind u (rw (none_past dst p.0) refl)
no_fault (i.Arithmetic W32 op.SignedDiv dst (Register src)) f behind p u = along _ f behind u (rw (none_past dst p.0, none_past src p.1) refl)
no_fault (i.Arithmetic W32 op.Or dst (Immediate n)) f behind p u = along _ f behind u (rw (none_past dst p.0) refl)
no_fault (i.Arithmetic W32 op.Or dst (Register src)) f behind p u = along _ f behind u (rw (none_past dst p.0, none_past src p.1) refl)
no_fault (i.Arithmetic W32 op.And dst (Immediate n)) f behind p u = along _ f behind u (rw (none_past dst p.0) refl)
no_fault (i.Arithmetic W32 op.And dst (Register src)) f behind p u = along _ f behind u (rw (none_past dst p.0, none_past src p.1) refl)
no_fault (i.Arithmetic W32 op.ShiftLeft dst (Immediate n)) f behind p u = along _ f behind u (rw (none_past dst p.0) refl)
no_fault (i.Arithmetic W32 op.ShiftLeft dst (Register src)) f behind p u = along _ f behind u (rw (none_past dst p.0, none_past src p.1) refl)
no_fault (i.Arithmetic W32 op.ShiftRight dst (Immediate n)) f behind p u = along _ f behind u (rw (none_past dst p.0) refl)
no_fault (i.Arithmetic W32 op.ShiftRight dst (Register src)) f behind p u = along _ f behind u (rw (none_past dst p.0, none_past src p.1) refl)
no_fault (i.Arithmetic W32 op.Mod dst (Immediate n)) f behind p u = along _ f behind u (rw (none_past dst p.0) refl)
no_fault (i.Arithmetic W32 op.Mod dst (Register src)) f behind p u = along _ f behind u (rw (none_past dst p.0, none_past src p.1) refl)
no_fault (i.Arithmetic W32 op.SignedMod dst (Immediate n)) f behind p u = along _ f behind u (rw (none_past dst p.0) refl)
no_fault (i.Arithmetic W32 op.SignedMod dst (Register src)) f behind p u = along _ f behind u (rw (none_past dst p.0, none_past src p.1) refl)
no_fault (i.Arithmetic W32 op.Xor dst (Immediate n)) f behind p u = along _ f behind u (rw (none_past dst p.0) refl)
no_fault (i.Arithmetic W32 op.Xor dst (Register src)) f behind p u = along _ f behind u (rw (none_past dst p.0, none_past src p.1) refl)
no_fault (i.Arithmetic W32 op.Move dst (Immediate n)) f behind p u = along _ f behind u (rw (none_past dst p.0) refl)
no_fault (i.Arithmetic W32 op.Move dst (Register src)) f behind p u = along _ f behind u (rw (none_past dst p.0, none_past src p.1) refl)
no_fault (i.Arithmetic W32 op.ArithmeticShiftRight dst (Immediate n)) f behind p u = along _ f behind u (rw (none_past dst p.0) refl)
no_fault (i.Arithmetic W32 op.ArithmeticShiftRight dst (Register src)) f behind p u = along _ f behind u (rw (none_past dst p.0, none_past src p.1) refl)
no_fault (i.Negate W32 dst) f behind p u = along _ f behind u (rw (none_past dst p) refl)
no_fault (i.SignExtend W32 narrow.Byte dst src) f behind p u = along _ f behind u (rw (none_past dst p.1, none_past src p.2) refl)
no_fault (i.SignExtend W32 narrow.Half dst src) f behind p u = along _ f behind u (rw (none_past dst p.1, none_past src p.2) refl)
no_fault (i.SignExtend W32 narrow.Word dst src) f behind p u = absurd p.0
no_fault (i.Branch W32 c.Equal dst (Immediate n) distance) f behind p u = along _ f behind u (rw (none_past dst p.0) refl)
no_fault (i.Branch W32 c.Equal dst (Register src) distance) f behind p u = along _ f behind u (rw (none_past dst p.0, none_past src p.1) refl)
no_fault (i.Branch W32 c.Above dst (Immediate n) distance) f behind p u = along _ f behind u (rw (none_past dst p.0) refl)
no_fault (i.Branch W32 c.Above dst (Register src) distance) f behind p u = along _ f behind u (rw (none_past dst p.0, none_past src p.1) refl)
no_fault (i.Branch W32 c.AtLeast dst (Immediate n) distance) f behind p u = along _ f behind u (rw (none_past dst p.0) refl)
no_fault (i.Branch W32 c.AtLeast dst (Register src) distance) f behind p u = along _ f behind u (rw (none_past dst p.0, none_past src p.1) refl)
no_fault (i.Branch W32 c.AnyBit dst (Immediate n) distance) f behind p u = along _ f behind u (rw (none_past dst p.0) refl)
no_fault (i.Branch W32 c.AnyBit dst (Register src) distance) f behind p u = along _ f behind u (rw (none_past dst p.0, none_past src p.1) refl)
no_fault (i.Branch W32 c.NotEqual dst (Immediate n) distance) f behind p u = along _ f behind u (rw (none_past dst p.0) refl)
no_fault (i.Branch W32 c.NotEqual dst (Register src) distance) f behind p u = along _ f behind u (rw (none_past dst p.0, none_past src p.1) refl)
no_fault (i.Branch W32 c.SignedAbove dst (Immediate n) distance) f behind p u = along _ f behind u (rw (none_past dst p.0) refl)
no_fault (i.Branch W32 c.SignedAbove dst (Register src) distance) f behind p u = along _ f behind u (rw (none_past dst p.0, none_past src p.1) refl)
no_fault (i.Branch W32 c.SignedAtLeast dst (Immediate n) distance) f behind p u = along _ f behind u (rw (none_past dst p.0) refl)
no_fault (i.Branch W32 c.SignedAtLeast dst (Register src) distance) f behind p u = along _ f behind u (rw (none_past dst p.0, none_past src p.1) refl)
no_fault (i.Branch W32 c.Below dst (Immediate n) distance) f behind p u = along _ f behind u (rw (none_past dst p.0) refl)
no_fault (i.Branch W32 c.Below dst (Register src) distance) f behind p u = along _ f behind u (rw (none_past dst p.0, none_past src p.1) refl)
no_fault (i.Branch W32 c.AtMost dst (Immediate n) distance) f behind p u = along _ f behind u (rw (none_past dst p.0) refl)
no_fault (i.Branch W32 c.AtMost dst (Register src) distance) f behind p u = along _ f behind u (rw (none_past dst p.0, none_past src p.1) refl)
no_fault (i.Branch W32 c.SignedBelow dst (Immediate n) distance) f behind p u = along _ f behind u (rw (none_past dst p.0) refl)
no_fault (i.Branch W32 c.SignedBelow dst (Register src) distance) f behind p u = along _ f behind u (rw (none_past dst p.0, none_past src p.1) refl)
no_fault (i.Branch W32 c.SignedAtMost dst (Immediate n) distance) f behind p u = along _ f behind u (rw (none_past dst p.0) refl)
no_fault (i.Branch W32 c.SignedAtMost dst (Register src) distance) f behind p u = along _ f behind u (rw (none_past dst p.0, none_past src p.1) refl)
no_fault (i.Swap order.Little swap.Half dst) f behind p u = along _ f behind u (rw (none_past dst p) refl)
no_fault (i.Swap order.Little swap.Word dst) f behind p u = along _ f behind u (rw (none_past dst p) refl)
no_fault (i.Swap order.Little swap.Double dst) f behind p u = along _ f behind u (rw (none_past dst p) refl)
no_fault (i.Swap order.Big swap.Half dst) f behind p u = along _ f behind u (rw (none_past dst p) refl)
no_fault (i.Swap order.Big swap.Word dst) f behind p u = along _ f behind u (rw (none_past dst p) refl)
no_fault (i.Swap order.Big swap.Double dst) f behind p u = along _ f behind u (rw (none_past dst p) refl)
no_fault (i.Swap order.Reversed swap.Half dst) f behind p u = along _ f behind u (rw (none_past dst p) refl)
no_fault (i.Swap order.Reversed swap.Word dst) f behind p u = along _ f behind u (rw (none_past dst p) refl)
no_fault (i.Swap order.Reversed swap.Double dst) f behind p u = along _ f behind u (rw (none_past dst p) refl)
no_fault (i.Load size.Byte dst base offset) f behind p u = along _ f behind u (rw (none_past dst p.0, none_past base p.1) refl)
no_fault (i.Store size.Byte base offset (Immediate n)) f behind p u = along _ f behind u (rw (none_past base p.0) refl)
no_fault (i.Store size.Byte base offset (Register src)) f behind p u = along _ f behind u (rw (none_past base p.0, none_past src p.2) refl)
no_fault (i.Load size.Half dst base offset) f behind p u = along _ f behind u (rw (none_past dst p.0, none_past base p.1) refl)
no_fault (i.Store size.Half base offset (Immediate n)) f behind p u = along _ f behind u (rw (none_past base p.0) refl)
no_fault (i.Store size.Half base offset (Register src)) f behind p u = along _ f behind u (rw (none_past base p.0, none_past src p.2) refl)
no_fault (i.Load size.Word dst base offset) f behind p u = along _ f behind u (rw (none_past dst p.0, none_past base p.1) refl)
no_fault (i.Store size.Word base offset (Immediate n)) f behind p u = along _ f behind u (rw (none_past base p.0) refl)
no_fault (i.Store size.Word base offset (Register src)) f behind p u = along _ f behind u (rw (none_past base p.0, none_past src p.2) refl)
no_fault (i.Load size.Double dst base offset) f behind p u = along _ f behind u (rw (none_past dst p.0, none_past base p.1) refl)
no_fault (i.Store size.Double base offset (Immediate n)) f behind p u = along _ f behind u (rw (none_past base p.0) refl)
no_fault (i.Store size.Double base offset (Register src)) f behind p u = along _ f behind u (rw (none_past base p.0, none_past src p.2) refl)
no_fault (i.LoadSigned narrow.Byte dst base offset) f behind p u = along _ f behind u (rw (none_past dst p.0, none_past base p.1) refl)
no_fault (i.LoadSigned narrow.Half dst base offset) f behind p u = along _ f behind u (rw (none_past dst p.0, none_past base p.1) refl)
no_fault (i.LoadSigned narrow.Word dst base offset) f behind p u = along _ f behind u (rw (none_past dst p.0, none_past base p.1) refl)
no_fault (i.Jump distance) f behind p u = along _ f behind u (refl)
no_fault (i.LongJump distance) f behind p u = along _ f behind u (refl)
no_fault (i.Call helper) f behind p u = along _ f behind u (refl)
no_fault i.Exit f behind p u = along _ f behind u (refl)
no_fault (i.LoadImmediate dst number) f behind p u = along _ f behind u.0 (rw (none_past dst p.0, long) (subst (λ (g : Fields). second_half g ≡ None) u.2 refl))
  where
    long : nat_lt (length behind) 8 ≡ false
    long = le-ltb (length behind) 8 u.1
