-- No two mnemonics have the same text.
use Rattle.std.proofs.Common.{◌≡◌, Some, refl}
use Rattle.word.specs.declared.Width.TheVariants.{W32, W64}
use Rattle.word.specs.declared.Operation.TheVariants as op
use Rattle.word.specs.declared.Condition.TheVariants as c
use Rattle.word.specs.declared.Narrow.TheVariants as narrow
use Rattle.word.specs.declared.SwapSize.TheVariants as swap
use Rattle.word.specs.declared.ByteOrder.TheVariants.{Little, Big, Reversed}
use Rattle.insn.specs.declared.insn.Size.TheVariants as size
use Rattle.asm.specs.declared.mnemonic.Mnemonic.{Mnemonic}
use Rattle.asm.specs.declared.mnemonic.Mnemonic.TheVariants as words
use Rattle.asm.specs.Table.{IsMnemonic, name_of, mnemonic_of, mnemonics}

pub mnemonic_of-name : (m : Mnemonic) → IsMnemonic m → mnemonic_of (name_of m) ≡ Some m
unfolding mnemonic_of mnemonics
mnemonic_of-name (words.Arithmetic W64 op.Add) is = refl
mnemonic_of-name (words.Arithmetic W32 op.Add) is = refl
mnemonic_of-name (words.Arithmetic W64 op.And) is = refl
mnemonic_of-name (words.Arithmetic W32 op.And) is = refl
mnemonic_of-name (words.Arithmetic W64 op.ArithmeticShiftRight) is = refl
mnemonic_of-name (words.Arithmetic W32 op.ArithmeticShiftRight) is = refl
mnemonic_of-name (words.Swap Big swap.Half) is = refl
mnemonic_of-name (words.Swap Big swap.Word) is = refl
mnemonic_of-name (words.Swap Big swap.Double) is = refl
mnemonic_of-name words.Call is = refl
mnemonic_of-name (words.Arithmetic W64 op.Div) is = refl
mnemonic_of-name (words.Arithmetic W32 op.Div) is = refl
mnemonic_of-name words.Exit is = refl
mnemonic_of-name words.Jump is = refl
mnemonic_of-name words.LongJump is = refl
mnemonic_of-name (words.Branch W64 c.Equal) is = refl
mnemonic_of-name (words.Branch W32 c.Equal) is = refl
mnemonic_of-name (words.Branch W64 c.Above) is = refl
mnemonic_of-name (words.Branch W32 c.Above) is = refl
mnemonic_of-name (words.Branch W64 c.AtLeast) is = refl
mnemonic_of-name (words.Branch W32 c.AtLeast) is = refl
mnemonic_of-name (words.Branch W64 c.AnyBit) is = refl
mnemonic_of-name (words.Branch W32 c.AnyBit) is = refl
mnemonic_of-name (words.Branch W64 c.NotEqual) is = refl
mnemonic_of-name (words.Branch W32 c.NotEqual) is = refl
mnemonic_of-name (words.Branch W64 c.SignedAbove) is = refl
mnemonic_of-name (words.Branch W32 c.SignedAbove) is = refl
mnemonic_of-name (words.Branch W64 c.SignedAtLeast) is = refl
mnemonic_of-name (words.Branch W32 c.SignedAtLeast) is = refl
mnemonic_of-name (words.Branch W64 c.Below) is = refl
mnemonic_of-name (words.Branch W32 c.Below) is = refl
mnemonic_of-name (words.Branch W64 c.AtMost) is = refl
mnemonic_of-name (words.Branch W32 c.AtMost) is = refl
mnemonic_of-name (words.Branch W64 c.SignedBelow) is = refl
mnemonic_of-name (words.Branch W32 c.SignedBelow) is = refl
mnemonic_of-name (words.Branch W64 c.SignedAtMost) is = refl
mnemonic_of-name (words.Branch W32 c.SignedAtMost) is = refl
mnemonic_of-name (words.Swap Little swap.Half) is = refl
mnemonic_of-name (words.Swap Little swap.Word) is = refl
mnemonic_of-name (words.Swap Little swap.Double) is = refl
mnemonic_of-name (words.Arithmetic W64 op.ShiftLeft) is = refl
mnemonic_of-name (words.Arithmetic W32 op.ShiftLeft) is = refl
mnemonic_of-name (words.Load size.Byte) is = refl
mnemonic_of-name (words.Load size.Half) is = refl
mnemonic_of-name (words.Load size.Word) is = refl
mnemonic_of-name (words.Load size.Double) is = refl
mnemonic_of-name (words.LoadSigned narrow.Byte) is = refl
mnemonic_of-name (words.LoadSigned narrow.Half) is = refl
mnemonic_of-name (words.LoadSigned narrow.Word) is = refl
mnemonic_of-name words.LoadImmediate is = refl
mnemonic_of-name (words.Arithmetic W64 op.Move) is = refl
mnemonic_of-name (words.Arithmetic W32 op.Move) is = refl
mnemonic_of-name (words.Arithmetic W64 op.Mul) is = refl
mnemonic_of-name (words.Arithmetic W32 op.Mul) is = refl
mnemonic_of-name (words.Arithmetic W64 op.Mod) is = refl
mnemonic_of-name (words.Arithmetic W32 op.Mod) is = refl
mnemonic_of-name (words.SignExtend W64 narrow.Byte) is = refl
mnemonic_of-name (words.SignExtend W32 narrow.Byte) is = refl
mnemonic_of-name (words.SignExtend W64 narrow.Half) is = refl
mnemonic_of-name (words.SignExtend W32 narrow.Half) is = refl
mnemonic_of-name (words.SignExtend W64 narrow.Word) is = refl
mnemonic_of-name (words.Negate W64) is = refl
mnemonic_of-name (words.Negate W32) is = refl
mnemonic_of-name (words.Arithmetic W64 op.Or) is = refl
mnemonic_of-name (words.Arithmetic W32 op.Or) is = refl
mnemonic_of-name (words.Arithmetic W64 op.ShiftRight) is = refl
mnemonic_of-name (words.Arithmetic W32 op.ShiftRight) is = refl
mnemonic_of-name (words.Arithmetic W64 op.Sub) is = refl
mnemonic_of-name (words.Arithmetic W32 op.Sub) is = refl
mnemonic_of-name (words.StoreRegister size.Byte) is = refl
mnemonic_of-name (words.StoreRegister size.Half) is = refl
mnemonic_of-name (words.StoreRegister size.Word) is = refl
mnemonic_of-name (words.StoreRegister size.Double) is = refl
mnemonic_of-name (words.StoreNumber size.Byte) is = refl
mnemonic_of-name (words.StoreNumber size.Half) is = refl
mnemonic_of-name (words.StoreNumber size.Word) is = refl
mnemonic_of-name (words.StoreNumber size.Double) is = refl
mnemonic_of-name (words.Arithmetic W64 op.SignedDiv) is = refl
mnemonic_of-name (words.Arithmetic W32 op.SignedDiv) is = refl
mnemonic_of-name (words.Arithmetic W64 op.SignedMod) is = refl
mnemonic_of-name (words.Arithmetic W32 op.SignedMod) is = refl
mnemonic_of-name (words.Swap Reversed swap.Half) is = refl
mnemonic_of-name (words.Swap Reversed swap.Word) is = refl
mnemonic_of-name (words.Swap Reversed swap.Double) is = refl
mnemonic_of-name (words.Arithmetic W64 op.Xor) is = refl
mnemonic_of-name (words.Arithmetic W32 op.Xor) is = refl
mnemonic_of-name (words.SignExtend W32 narrow.Word) is = absurd is
