-- The line of an instruction begins with a letter.
use Rattle.std.proofs.Common.{◌≡◌, ◌<◌, ℕ, true, false, List, ◌∷◌, ◌++◌, length, refl, ap, ◌∙◌, arith}
use Rattle.std.specs.Prelude.{◌==◌, codes}
use Rattle.std.proofs.lemmas.Bool.Decides.{nat_tests}
use Rattle.text.specs.declared.stop.Stop.TheVariants.{Solid}
use Rattle.text.specs.Stop.{is_stop, is_within}
use Rattle.word.specs.declared.Operation.{Operation}
use Rattle.word.specs.declared.Operation.TheVariants as op
use Rattle.word.specs.declared.Condition.{Condition}
use Rattle.word.specs.declared.Condition.TheVariants as c
use Rattle.word.specs.declared.ByteOrder.{ByteOrder}
use Rattle.word.specs.declared.ByteOrder.TheVariants.{Little, Big, Reversed}
use Rattle.insn.specs.declared.insn.Insn.{Insn}
use Rattle.asm.specs.declared.mnemonic.Mnemonic.{Mnemonic}
use Rattle.asm.specs.declared.mnemonic.Mnemonic.TheVariants as words
use Rattle.asm.specs.Table.{operation_name, condition_name, order_name, width_name, size_name, part_name, part_bits, swap_bits, name_of}
use Rattle.asm.specs.Printing.{word_of, operands_of, operands_text, insn_text}
use Rattle.asm.specs.Reading.{is_dotted}

-- The text begins with a small letter.
pub record Begins (text : List ℕ) : Type 0 where
  pub first : ℕ
  pub rest : List ℕ
  pub parts : text ≡ first ∷ rest
  pub letter : is_within 97 122 first ≡ true

begins : (first : ℕ) (rest : List ℕ) → is_within 97 122 first ≡ true → Begins (first ∷ rest)
begins first rest letter = record { first = first; rest = rest; parts = refl; letter = letter }

begins_more : (text more : List ℕ) → Begins text → Begins (text ++ more)
begins_more text more b = record { first = b.first; rest = b.rest ++ more; parts = ap (λ t. t ++ more) b.parts; letter = b.letter }

begins_operation : (o : Operation) → Begins (operation_name o)
begins_operation op.Add = begins 97 (codes "dd") refl
begins_operation op.Sub = begins 115 (codes "ub") refl
begins_operation op.Mul = begins 109 (codes "ul") refl
begins_operation op.Div = begins 100 (codes "iv") refl
begins_operation op.SignedDiv = begins 115 (codes "div") refl
begins_operation op.Or = begins 111 (codes "r") refl
begins_operation op.And = begins 97 (codes "nd") refl
begins_operation op.ShiftLeft = begins 108 (codes "sh") refl
begins_operation op.ShiftRight = begins 114 (codes "sh") refl
begins_operation op.Mod = begins 109 (codes "od") refl
begins_operation op.SignedMod = begins 115 (codes "mod") refl
begins_operation op.Xor = begins 120 (codes "or") refl
begins_operation op.Move = begins 109 (codes "ov") refl
begins_operation op.ArithmeticShiftRight = begins 97 (codes "rsh") refl

begins_condition : (o : Condition) → Begins (condition_name o)
begins_condition c.Equal = begins 106 (codes "eq") refl
begins_condition c.Above = begins 106 (codes "gt") refl
begins_condition c.AtLeast = begins 106 (codes "ge") refl
begins_condition c.AnyBit = begins 106 (codes "set") refl
begins_condition c.NotEqual = begins 106 (codes "ne") refl
begins_condition c.SignedAbove = begins 106 (codes "sgt") refl
begins_condition c.SignedAtLeast = begins 106 (codes "sge") refl
begins_condition c.Below = begins 106 (codes "lt") refl
begins_condition c.AtMost = begins 106 (codes "le") refl
begins_condition c.SignedBelow = begins 106 (codes "slt") refl
begins_condition c.SignedAtMost = begins 106 (codes "sle") refl

begins_order : (o : ByteOrder) → Begins (order_name o)
begins_order Little = begins 108 (codes "e") refl
begins_order Big = begins 98 (codes "e") refl
begins_order Reversed = begins 115 (codes "wap") refl

begins_name : (m : Mnemonic) → Begins (name_of m)
begins_name (words.Arithmetic width operation) = begins_more (operation_name operation) (width_name width) (begins_operation operation)
begins_name (words.Negate width) = begins_more (codes "neg") (width_name width) (begins 110 (codes "eg") refl)
begins_name (words.SignExtend width part) = begins_more (codes "movsx") (part_bits part ++ width_name width) (begins 109 (codes "ovsx") refl)
begins_name (words.Swap order bytes) = begins_more (order_name order) (swap_bits bytes) (begins_order order)
begins_name words.LoadImmediate = begins 108 (codes "ddw") refl
begins_name words.Jump = begins 106 (codes "a") refl
begins_name words.LongJump = begins 106 (codes "a.w") refl
begins_name (words.Branch width condition) = begins_more (condition_name condition) (width_name width) (begins_condition condition)
begins_name (words.Load bytes) = begins_more (codes "ld") (size_name bytes) (begins 108 (codes "d") refl)
begins_name (words.LoadSigned part) = begins_more (codes "lds") (part_name part) (begins 108 (codes "ds") refl)
begins_name (words.StoreRegister bytes) = begins_more (codes "stx") (size_name bytes) (begins 115 (codes "tx") refl)
begins_name (words.StoreNumber bytes) = begins_more (codes "st") (size_name bytes) (begins 115 (codes "t") refl)
begins_name words.Call = begins 99 (codes "all") refl
begins_name words.Exit = begins 101 (codes "xit") refl

pub begins_insn : (insn : Insn) → Begins (insn_text insn)
unfolding insn_text
begins_insn insn = begins_more (name_of (word_of insn)) (operands_text (operands_of insn)) (begins_name (word_of insn))

-- A letter is not a dot, and not white space.
letter_solid : (first : ℕ) → is_within 97 122 first ≡ true → is_stop Solid first ≡ true
letter_solid first letter = grind (arith, nat_tests)

letter_undotted : (first : ℕ) → is_within 97 122 first ≡ true → (first == 46) ≡ false
letter_undotted first letter = grind (arith, nat_tests)

undotted_at : (first : ℕ) (rest : List ℕ) → is_stop Solid first ≡ true → (first == 46) ≡ false → is_dotted (first ∷ rest) ≡ false
undotted_at first rest solid other = rw solid other

pub undotted : (text : List ℕ) → Begins text → is_dotted text ≡ false
undotted text b =
    ap is_dotted b.parts ∙ undotted_at b.first b.rest (letter_solid b.first b.letter) (letter_undotted b.first b.letter)

pub begins_some : (text : List ℕ) → Begins text → 0 < length text
begins_some text b = omega (arith, ap length b.parts)
