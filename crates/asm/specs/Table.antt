-- The mnemonics of the assembly language.
use Rattle.std.specs.Prelude.{ℕ, List, [], ◌∷◌, ◌++◌, if◌then◌else◌, Option, Some, None, codes}
use Rattle.std.specs.Str.{bytes_eq}
use Rattle.word.specs.declared.Width.{Width}
use Rattle.word.specs.declared.Width.TheVariants.{W32, W64}
use Rattle.word.specs.declared.Operation.{Operation}
use Rattle.word.specs.declared.Operation.TheVariants as op
use Rattle.word.specs.declared.Condition.{Condition}
use Rattle.word.specs.declared.Condition.TheVariants as c
use Rattle.word.specs.declared.Narrow.{Narrow}
use Rattle.word.specs.declared.Narrow.TheVariants as narrow
use Rattle.word.specs.declared.SwapSize.{SwapSize}
use Rattle.word.specs.declared.SwapSize.TheVariants as swap
use Rattle.word.specs.declared.ByteOrder.{ByteOrder}
use Rattle.word.specs.declared.ByteOrder.TheVariants.{Little, Big, Reversed}
use Rattle.insn.specs.declared.insn.Size.{Size}
use Rattle.insn.specs.declared.insn.Size.TheVariants as size
use Rattle.insn.specs.Insn.{IsExtension}
use Rattle.asm.specs.declared.mnemonic.Mnemonic.{Mnemonic}
use Rattle.asm.specs.declared.mnemonic.Mnemonic.TheVariants as words

-- Returns the mnemonic of an operation on 64 bits.
abbrev pub operation_name : Operation → List ℕ
operation_name op.Add = codes "add"
operation_name op.Sub = codes "sub"
operation_name op.Mul = codes "mul"
operation_name op.Div = codes "div"
operation_name op.SignedDiv = codes "sdiv"
operation_name op.Or = codes "or"
operation_name op.And = codes "and"
operation_name op.ShiftLeft = codes "lsh"
operation_name op.ShiftRight = codes "rsh"
operation_name op.Mod = codes "mod"
operation_name op.SignedMod = codes "smod"
operation_name op.Xor = codes "xor"
operation_name op.Move = codes "mov"
operation_name op.ArithmeticShiftRight = codes "arsh"

-- Returns the mnemonic of a conditional jump on 64 bits.
abbrev pub condition_name : Condition → List ℕ
condition_name c.Equal = codes "jeq"
condition_name c.Above = codes "jgt"
condition_name c.AtLeast = codes "jge"
condition_name c.AnyBit = codes "jset"
condition_name c.NotEqual = codes "jne"
condition_name c.SignedAbove = codes "jsgt"
condition_name c.SignedAtLeast = codes "jsge"
condition_name c.Below = codes "jlt"
condition_name c.AtMost = codes "jle"
condition_name c.SignedBelow = codes "jslt"
condition_name c.SignedAtMost = codes "jsle"

-- Returns the end of a mnemonic, which is `.w` for 32 bits.
abbrev pub width_name : Width → List ℕ
width_name W64 = []
width_name W32 = codes ".w"

-- Returns the last letter of the mnemonic of a load or store, by its size.
abbrev pub size_name : Size → List ℕ
size_name size.Byte = codes "b"
size_name size.Half = codes "h"
size_name size.Word = codes "w"
size_name size.Double = codes "d"

-- Returns the last letter of the mnemonic of a sign-extended load, by its size.
abbrev pub part_name : Narrow → List ℕ
part_name narrow.Byte = codes "b"
part_name narrow.Half = codes "h"
part_name narrow.Word = codes "w"

-- Returns the number of bits of a sign extension, as text.
abbrev pub part_bits : Narrow → List ℕ
part_bits narrow.Byte = codes "8"
part_bits narrow.Half = codes "16"
part_bits narrow.Word = codes "32"

-- Returns the mnemonic of a byte swap, without its number of bits.
abbrev pub order_name : ByteOrder → List ℕ
order_name Little = codes "le"
order_name Big = codes "be"
order_name Reversed = codes "swap"

-- Returns the number of bits of a byte swap, as text.
abbrev pub swap_bits : SwapSize → List ℕ
swap_bits swap.Half = codes "16"
swap_bits swap.Word = codes "32"
swap_bits swap.Double = codes "64"

-- Returns a mnemonic as text.
abbrev pub name_of : Mnemonic → List ℕ
name_of (words.Arithmetic width operation) = operation_name operation ++ width_name width
name_of (words.Negate width) = codes "neg" ++ width_name width
name_of (words.SignExtend width part) = codes "movsx" ++ part_bits part ++ width_name width
name_of (words.Swap order bytes) = order_name order ++ swap_bits bytes
name_of words.LoadImmediate = codes "lddw"
name_of words.Jump = codes "ja"
name_of words.LongJump = codes "ja.w"
name_of (words.Branch width condition) = condition_name condition ++ width_name width
name_of (words.Load bytes) = codes "ld" ++ size_name bytes
name_of (words.LoadSigned part) = codes "lds" ++ part_name part
name_of (words.StoreRegister bytes) = codes "stx" ++ size_name bytes
name_of (words.StoreNumber bytes) = codes "st" ++ size_name bytes
name_of words.Call = codes "call"
name_of words.Exit = codes "exit"

-- States that the mnemonic is in the table. There is none for a sign extension from 32 to 32 bits.
abbrev pub IsMnemonic : Mnemonic → Type 0
IsMnemonic (words.SignExtend width part) = IsExtension width part
IsMnemonic _ = Unit {0}

-- All mnemonics. Those with the same first letter are adjacent.
unfoldable pub mnemonics : List Mnemonic
mnemonics =
    words.Arithmetic W64 op.Add ∷ words.Arithmetic W32 op.Add ∷ words.Arithmetic W64 op.And ∷
    words.Arithmetic W32 op.And ∷
    words.Arithmetic W64 op.ArithmeticShiftRight ∷ words.Arithmetic W32 op.ArithmeticShiftRight ∷
    words.Swap Big swap.Half ∷ words.Swap Big swap.Word ∷ words.Swap Big swap.Double ∷
    words.Call ∷
    words.Arithmetic W64 op.Div ∷ words.Arithmetic W32 op.Div ∷
    words.Exit ∷
    words.Jump ∷ words.LongJump ∷
    words.Branch W64 c.Equal ∷ words.Branch W32 c.Equal ∷ words.Branch W64 c.Above ∷ words.Branch W32 c.Above ∷
    words.Branch W64 c.AtLeast ∷ words.Branch W32 c.AtLeast ∷ words.Branch W64 c.AnyBit ∷ words.Branch W32 c.AnyBit ∷
    words.Branch W64 c.NotEqual ∷ words.Branch W32 c.NotEqual ∷ words.Branch W64 c.SignedAbove ∷
    words.Branch W32 c.SignedAbove ∷
    words.Branch W64 c.SignedAtLeast ∷ words.Branch W32 c.SignedAtLeast ∷ words.Branch W64 c.Below ∷
    words.Branch W32 c.Below ∷
    words.Branch W64 c.AtMost ∷ words.Branch W32 c.AtMost ∷ words.Branch W64 c.SignedBelow ∷
    words.Branch W32 c.SignedBelow ∷
    words.Branch W64 c.SignedAtMost ∷ words.Branch W32 c.SignedAtMost ∷
    words.Swap Little swap.Half ∷ words.Swap Little swap.Word ∷ words.Swap Little swap.Double ∷
    words.Arithmetic W64 op.ShiftLeft ∷ words.Arithmetic W32 op.ShiftLeft ∷
    words.Load size.Byte ∷ words.Load size.Half ∷ words.Load size.Word ∷ words.Load size.Double ∷
    words.LoadSigned narrow.Byte ∷ words.LoadSigned narrow.Half ∷ words.LoadSigned narrow.Word ∷ words.LoadImmediate ∷
    words.Arithmetic W64 op.Move ∷ words.Arithmetic W32 op.Move ∷ words.Arithmetic W64 op.Mul ∷
    words.Arithmetic W32 op.Mul ∷
    words.Arithmetic W64 op.Mod ∷ words.Arithmetic W32 op.Mod ∷
    words.SignExtend W64 narrow.Byte ∷ words.SignExtend W32 narrow.Byte ∷ words.SignExtend W64 narrow.Half ∷
    words.SignExtend W32 narrow.Half ∷
    words.SignExtend W64 narrow.Word ∷
    words.Negate W64 ∷ words.Negate W32 ∷
    words.Arithmetic W64 op.Or ∷ words.Arithmetic W32 op.Or ∷
    words.Arithmetic W64 op.ShiftRight ∷ words.Arithmetic W32 op.ShiftRight ∷
    words.Arithmetic W64 op.Sub ∷ words.Arithmetic W32 op.Sub ∷
    words.StoreRegister size.Byte ∷ words.StoreRegister size.Half ∷ words.StoreRegister size.Word ∷
    words.StoreRegister size.Double ∷
    words.StoreNumber size.Byte ∷ words.StoreNumber size.Half ∷ words.StoreNumber size.Word ∷
    words.StoreNumber size.Double ∷
    words.Arithmetic W64 op.SignedDiv ∷ words.Arithmetic W32 op.SignedDiv ∷ words.Arithmetic W64 op.SignedMod ∷
    words.Arithmetic W32 op.SignedMod ∷
    words.Swap Reversed swap.Half ∷ words.Swap Reversed swap.Word ∷ words.Swap Reversed swap.Double ∷
    words.Arithmetic W64 op.Xor ∷ words.Arithmetic W32 op.Xor ∷ []

-- Returns the first mnemonic in the list whose text is `word`.
abbrev pub first_named : List ℕ → List Mnemonic → Option Mnemonic
first_named word [] = None
first_named word (m ∷ ms) = if bytes_eq (name_of m) word then Some m else first_named word ms

-- Returns the mnemonic whose text is `word`.
unfoldable pub mnemonic_of : List ℕ → Option Mnemonic
mnemonic_of word = first_named word mnemonics
