-- The bytes of what is printed.
use Rattle.std.proofs.Common.{◌≡◌, ℕ, suc, ◌^◌, ◌<◌, ◌≤◌, Bool, true, List, [], ◌∷◌, ◌++◌, length, refl, arith}
use Rattle.std.specs.Prelude.{ℤ, pos, negsuc, decimal, not, ◌==◌, ◌&&◌, nat_lt}
use Rattle.std.specs.Fmt.{signed_decimal}
use Rattle.std.specs.List.{list_all}
use Rattle.std.proofs.lemmas.Bool.Decides.{nat_tests}
use Rattle.std.proofs.lemmas.Fmt.{decimal_nonempty}
use Rattle.text.specs.Stop.{is_within}
use Rattle.text.proofs.BytesLemmas.{all-append, all-weaker}
use Rattle.text.proofs.DecimalLemmas.{digits-decimal}
use Rattle.insn.specs.declared.insn.Insn.{Insn}
use Rattle.insn.specs.declared.insn.Insn.TheVariants as insns
use Rattle.insn.specs.declared.insn.Operand.{Operand}
use Rattle.insn.specs.declared.insn.Operand.TheVariants.{Register, Immediate}
use Rattle.insn.specs.Insn.{IsInsn, IsOperand}
use Rattle.asm.specs.Printing.{register_text, operand_text, signed_text, place_text, operands_of}
use Rattle.asm.proofs.NumberLemmas.{IsSmall, small_16, small_32}

-- A byte of a word or an operand: visible, and not a comma, colon or semicolon.
abbrev pub is_plain : ℕ → Bool
is_plain c = nat_lt 32 c && nat_lt c 128 && not (c == 44) && not (c == 58) && not (c == 59)

-- A word of such bytes.
pub record IsPlain (token : List ℕ) : Type 0 where
  pub bytes : list_all is_plain token ≡ true
  pub some : 0 < length token

abbrev pub ArePlain : List (List ℕ) → Type 0
ArePlain [] = Unit {0}
ArePlain (t ∷ ts) = IsPlain t × ArePlain ts

plain_digit : (c : ℕ) → is_within 48 57 c ≡ true → is_plain c ≡ true
plain_digit c h = grind (arith, nat_tests)

plain_decimal : (n : ℕ) → n < 2 ^ 64 → list_all is_plain (decimal n) ≡ true
plain_decimal n lt = all-weaker (is_within 48 57) is_plain plain_digit (decimal n) (digits-decimal n lt)

plain_register : (r : ℕ) → r ≤ 10 → IsPlain (register_text r)
plain_register r le = record { bytes = plain_decimal r (omega arith); some = omega arith }

plain_number : (z : ℤ) → IsSmall z → IsPlain (signed_decimal z)
plain_number (pos n) small = record { bytes = plain_decimal n small; some = decimal_nonempty n small }
plain_number (negsuc n) small = record { bytes = plain_decimal (suc n) small; some = omega arith }

plain_operand : (o : Operand) → IsOperand o → IsPlain (operand_text o)
plain_operand (Register r) is = plain_register r is
plain_operand (Immediate z) is = plain_number z (small_32 z is)

plain_signed : (z : ℤ) → IsSmall z → IsPlain (signed_text z)
plain_signed (pos n) small = record { bytes = plain_decimal n small; some = omega arith }
plain_signed (negsuc n) small = record { bytes = plain_decimal (suc n) small; some = omega arith }

plain_place : (r : ℕ) (z : ℤ) → r ≤ 10 → IsSmall z → IsPlain (place_text r z)
plain_place r z le small = record {
  bytes = all-append is_plain (register_text r ++ signed_text z) (93 ∷ []) (all-append is_plain (register_text r) (signed_text z) (plain_register r le).bytes (plain_signed z small).bytes) refl;
  some = omega arith;
}

pub plain_operands : (i : Insn) → IsInsn i → ArePlain (operands_of i)
plain_operands (insns.Arithmetic width operation dst operand) is = (plain_register dst is.0, (plain_operand operand is.1, tt))
plain_operands (insns.Negate width dst) is = (plain_register dst is, tt)
plain_operands (insns.SignExtend width part dst src) is = (plain_register dst is.1, (plain_register src is.2, tt))
plain_operands (insns.Swap order size dst) is = (plain_register dst is, tt)
plain_operands (insns.LoadImmediate dst number) is = (plain_register dst is.0, (record { bytes = plain_decimal number is.1; some = decimal_nonempty number is.1 }, tt))
plain_operands (insns.Jump distance) is = (plain_signed distance (small_16 distance is), tt)
plain_operands (insns.LongJump distance) is = (plain_signed distance (small_32 distance is), tt)
plain_operands (insns.Branch width condition dst operand distance) is = (plain_register dst is.0, (plain_operand operand is.1, (plain_signed distance (small_16 distance is.2), tt)))
plain_operands (insns.Load size dst base offset) is = (plain_register dst is.0, (plain_place base offset is.1 (small_16 offset is.2), tt))
plain_operands (insns.LoadSigned part dst base offset) is = (plain_register dst is.0, (plain_place base offset is.1 (small_16 offset is.2), tt))
plain_operands (insns.Store size base offset source) is = (plain_place base offset is.0 (small_16 offset is.1), (plain_operand source is.2, tt))
plain_operands (insns.Call helper) is = (plain_number helper (small_32 helper is), tt)
plain_operands insns.Exit is = tt
