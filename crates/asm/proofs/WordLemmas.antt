-- The bytes of the mnemonics.
use Rattle.std.proofs.Common.{◌≡◌, ℕ, Bool, true, List, length, refl}
use Rattle.std.specs.Prelude.{◌&&◌, nat_lt}
use Rattle.std.specs.List.{list_all}
use Rattle.word.specs.declared.Width.TheVariants.{W32, W64}
use Rattle.word.specs.declared.Operation.TheVariants as op
use Rattle.word.specs.declared.Condition.TheVariants as c
use Rattle.word.specs.declared.Narrow.TheVariants as narrow
use Rattle.word.specs.declared.SwapSize.TheVariants as swap
use Rattle.word.specs.declared.ByteOrder.TheVariants.{Little, Big, Reversed}
use Rattle.insn.specs.declared.insn.Size.TheVariants as size
use Rattle.asm.specs.declared.mnemonic.Mnemonic.{Mnemonic}
use Rattle.asm.specs.declared.mnemonic.Mnemonic.TheVariants as words
use Rattle.asm.specs.Table.{name_of}
use Rattle.asm.specs.Line.{is_word}
use Rattle.asm.proofs.TokenLemmas.{is_plain}

-- Letters, digits, `_` and `.`, at least one.
abbrev pub is_fine : List ℕ → Bool
is_fine word = nat_lt 0 (length word) && is_word word && list_all is_plain word

pub is_fine-name : (m : Mnemonic) → is_fine (name_of m) ≡ true
is_fine-name (words.Arithmetic W64 op.Add) = refl
is_fine-name (words.Arithmetic W32 op.Add) = refl
is_fine-name (words.Arithmetic W64 op.And) = refl
is_fine-name (words.Arithmetic W32 op.And) = refl
is_fine-name (words.Arithmetic W64 op.ArithmeticShiftRight) = refl
is_fine-name (words.Arithmetic W32 op.ArithmeticShiftRight) = refl
is_fine-name (words.Swap Big swap.Half) = refl
is_fine-name (words.Swap Big swap.Word) = refl
is_fine-name (words.Swap Big swap.Double) = refl
is_fine-name words.Call = refl
is_fine-name (words.Arithmetic W64 op.Div) = refl
is_fine-name (words.Arithmetic W32 op.Div) = refl
is_fine-name words.Exit = refl
is_fine-name words.Jump = refl
is_fine-name words.LongJump = refl
is_fine-name (words.Branch W64 c.Equal) = refl
is_fine-name (words.Branch W32 c.Equal) = refl
is_fine-name (words.Branch W64 c.Above) = refl
is_fine-name (words.Branch W32 c.Above) = refl
is_fine-name (words.Branch W64 c.AtLeast) = refl
is_fine-name (words.Branch W32 c.AtLeast) = refl
is_fine-name (words.Branch W64 c.AnyBit) = refl
is_fine-name (words.Branch W32 c.AnyBit) = refl
is_fine-name (words.Branch W64 c.NotEqual) = refl
is_fine-name (words.Branch W32 c.NotEqual) = refl
is_fine-name (words.Branch W64 c.SignedAbove) = refl
is_fine-name (words.Branch W32 c.SignedAbove) = refl
is_fine-name (words.Branch W64 c.SignedAtLeast) = refl
is_fine-name (words.Branch W32 c.SignedAtLeast) = refl
is_fine-name (words.Branch W64 c.Below) = refl
is_fine-name (words.Branch W32 c.Below) = refl
is_fine-name (words.Branch W64 c.AtMost) = refl
is_fine-name (words.Branch W32 c.AtMost) = refl
is_fine-name (words.Branch W64 c.SignedBelow) = refl
is_fine-name (words.Branch W32 c.SignedBelow) = refl
is_fine-name (words.Branch W64 c.SignedAtMost) = refl
is_fine-name (words.Branch W32 c.SignedAtMost) = refl
is_fine-name (words.Swap Little swap.Half) = refl
is_fine-name (words.Swap Little swap.Word) = refl
is_fine-name (words.Swap Little swap.Double) = refl
is_fine-name (words.Arithmetic W64 op.ShiftLeft) = refl
is_fine-name (words.Arithmetic W32 op.ShiftLeft) = refl
is_fine-name (words.Load size.Byte) = refl
is_fine-name (words.Load size.Half) = refl
is_fine-name (words.Load size.Word) = refl
is_fine-name (words.Load size.Double) = refl
is_fine-name (words.LoadSigned narrow.Byte) = refl
is_fine-name (words.LoadSigned narrow.Half) = refl
is_fine-name (words.LoadSigned narrow.Word) = refl
is_fine-name words.LoadImmediate = refl
is_fine-name (words.Arithmetic W64 op.Move) = refl
is_fine-name (words.Arithmetic W32 op.Move) = refl
is_fine-name (words.Arithmetic W64 op.Mul) = refl
is_fine-name (words.Arithmetic W32 op.Mul) = refl
is_fine-name (words.Arithmetic W64 op.Mod) = refl
is_fine-name (words.Arithmetic W32 op.Mod) = refl
is_fine-name (words.SignExtend W64 narrow.Byte) = refl
is_fine-name (words.SignExtend W32 narrow.Byte) = refl
is_fine-name (words.SignExtend W64 narrow.Half) = refl
is_fine-name (words.SignExtend W32 narrow.Half) = refl
is_fine-name (words.SignExtend W64 narrow.Word) = refl
is_fine-name (words.Negate W64) = refl
is_fine-name (words.Negate W32) = refl
is_fine-name (words.Arithmetic W64 op.Or) = refl
is_fine-name (words.Arithmetic W32 op.Or) = refl
is_fine-name (words.Arithmetic W64 op.ShiftRight) = refl
is_fine-name (words.Arithmetic W32 op.ShiftRight) = refl
is_fine-name (words.Arithmetic W64 op.Sub) = refl
is_fine-name (words.Arithmetic W32 op.Sub) = refl
is_fine-name (words.StoreRegister size.Byte) = refl
is_fine-name (words.StoreRegister size.Half) = refl
is_fine-name (words.StoreRegister size.Word) = refl
is_fine-name (words.StoreRegister size.Double) = refl
is_fine-name (words.StoreNumber size.Byte) = refl
is_fine-name (words.StoreNumber size.Half) = refl
is_fine-name (words.StoreNumber size.Word) = refl
is_fine-name (words.StoreNumber size.Double) = refl
is_fine-name (words.Arithmetic W64 op.SignedDiv) = refl
is_fine-name (words.Arithmetic W32 op.SignedDiv) = refl
is_fine-name (words.Arithmetic W64 op.SignedMod) = refl
is_fine-name (words.Arithmetic W32 op.SignedMod) = refl
is_fine-name (words.Swap Reversed swap.Half) = refl
is_fine-name (words.Swap Reversed swap.Word) = refl
is_fine-name (words.Swap Reversed swap.Double) = refl
is_fine-name (words.Arithmetic W64 op.Xor) = refl
is_fine-name (words.Arithmetic W32 op.Xor) = refl
is_fine-name (words.SignExtend W32 narrow.Word) = refl
