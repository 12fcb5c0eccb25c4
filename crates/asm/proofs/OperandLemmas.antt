-- Operands that are printed are read again.
use Rattle.std.proofs.Common.{◌≡◌, ℕ, suc, ◌+◌, ◌-◌, ◌<◌, ◌≤◌, true, false, List, [], ◌∷◌, ◌++◌, Some, length, take, drop, get_or, refl, ◌∙◌, arith, inl, inr, add-one}
use Rattle.std.specs.Prelude.{ℤ, pos, negsuc, decimal, not, ◌==◌, nat_lt}
use Rattle.std.specs.Fmt.{signed_decimal}
use Rattle.std.proofs.lemmas.Fmt.{decimal_digit, decimal_step}
use Rattle.std.proofs.lemmas.List.{length_push, get_or_push}
use Rattle.std.proofs.lemmas.Bool.{cases_lt, and_parts}
use Rattle.std.proofs.lemmas.Bool.Decides.{nat_tests}
use Rattle.text.specs.declared.stop.Stop.TheVariants.{Sign}
use Rattle.text.specs.Stop.{is_within, is_stop}
use Rattle.text.specs.Parts.{before, from}
use Rattle.text.proofs.BytesLemmas.{all-weaker}
use Rattle.text.proofs.CutLemmas.{Lacks, take_front, before-append, from-append}
use Rattle.text.proofs.DecimalLemmas.{AreDigits, digits-decimal, digit_is_not}
use Rattle.insn.specs.Insn.{IsOperand}
use Rattle.insn.specs.declared.insn.Operand.{Operand}
use Rattle.insn.specs.declared.insn.Operand.TheVariants.{Register, Immediate}
use Rattle.asm.specs.declared.operand.Raw.{Raw}
use Rattle.asm.specs.declared.operand.Raw.TheVariants as raws
use Rattle.asm.specs.Operand.{register_of, raw_of, fitted, offset_of, inside, place_of, Away, goal_of, is_letter}
use Rattle.asm.specs.Printing.{register_text, operand_text, signed_text, place_text}
use Rattle.asm.proofs.NumberLemmas.{number_for, IsSmall, number_of-signed, signed_of-text, within_32, small_32}

register_digit : (r : ℕ) → r < 10 → register_of (114 ∷ (48 + r) ∷ []) ≡ Some r
unfolding register_of
register_digit r lt = grind arith

pub ten_text : decimal 10 ≡ 49 ∷ 48 ∷ []
ten_text = decimal_step 10 (omega arith) (omega arith) ∙ rw (decimal_digit 1 (omega arith)) refl

register_ten : register_of (114 ∷ 49 ∷ 48 ∷ []) ≡ Some 10
unfolding register_of
register_ten = refl

pub register_of-text : (r : ℕ) → r ≤ 10 → register_of (register_text r) ≡ Some r
register_of-text r le =
    elim (cases_lt r 10) [
      | inl lt ↦ rw (decimal_digit r lt) (register_digit r lt)
      | inr ge ↦ let ten : r ≡ 10 = omega arith in rw (ten, ten_text) register_ten
    ]

-- The operand of an arithmetic instruction, as it is read.
raw_for : Operand → Raw
raw_for (Register r) = raws.Register r
raw_for (Immediate z) = raws.Number (number_for z)

-- Digits do not begin with a greater byte.
first_is_not : (ds : List ℕ) (other : ℕ) → AreDigits ds → 57 < other → (0 == other) ≡ false → (get_or ds 0 0 == other) ≡ false
first_is_not [] other h lt zero_is = zero_is
first_is_not (c ∷ cs) other h lt zero_is = digit_is_not c other (and_parts (is_within 48 57 c) _ h).0 lt

-- A printed number does not begin with the letter of registers.
no_register : (z : ℤ) → IsSmall z → (get_or (signed_decimal z) 0 0 == 114) ≡ false
no_register (pos n) small = first_is_not (decimal n) 114 (digits-decimal n small) (omega arith) refl
no_register (negsuc n) small = refl

letter_first : (ds : List ℕ) → AreDigits ds → is_letter (get_or ds 0 0) ≡ false
letter_first [] h = refl
letter_first (c ∷ cs) h =
    let first : is_within 48 57 c ≡ true = (and_parts (is_within 48 57 c) _ h).0 in
    grind (arith, nat_tests)

-- A printed number does not begin with a letter of names.
pub no_letter : (z : ℤ) → IsSmall z → is_letter (get_or (signed_decimal z) 0 0) ≡ false
no_letter (pos n) small = letter_first (decimal n) (digits-decimal n small)
no_letter (negsuc n) small = refl

raw_of-register : (r : ℕ) → r ≤ 10 → raw_of (register_text r) ≡ Some (raws.Register r)
unfolding raw_of
raw_of-register r le = rw (register_of-text r le) refl

raw_of-number : (z : ℤ) → IsSmall z → raw_of (signed_decimal z) ≡ Some (raws.Number (number_for z))
unfolding raw_of
raw_of-number z small = rw (no_register z small, number_of-signed z small) refl

pub operand_of-text : (o : Operand) → IsOperand o → (raw : Raw) × (raw_of (operand_text o) ≡ Some raw) × (fitted raw ≡ Some o)
unfolding fitted
operand_of-text (Register r) is = (raws.Register r, raw_of-register r is, refl)
operand_of-text (Immediate z) is = (raws.Number (number_for z), raw_of-number z (small_32 z is), rw (within_32 z is) refl)

-- Jump targets.
pub goal_of-text : (z : ℤ) → IsSmall z → goal_of (signed_text z) ≡ Some (Away (number_for z))
unfolding goal_of
goal_of-text (pos n) small = rw (signed_of-text (pos n) small) refl
goal_of-text (negsuc n) small = rw (signed_of-text (negsuc n) small) refl

-- Memory operands.
inside_is : (whole text : List ℕ) (n : ℕ) → length whole ≡ n + 2 → get_or whole 0 0 ≡ 91 → get_or whole (n + 1) 0 ≡ 93 → take n (drop 1 whole) ≡ text → inside whole ≡ Some text
inside_is whole text n len first last between =
    let long : nat_lt (length whole) 2 ≡ false = grind (arith, nat_tests) in
    let a : length whole - 1 ≡ n + 1 = omega arith in
    let b : length whole - 2 ≡ n = omega arith in
    rw (long, first, a, last, b, between) refl

inside-brackets : (text : List ℕ) → inside (91 ∷ (text ++ 93 ∷ [])) ≡ Some text
inside-brackets text =
    let len : length (text ++ 93 ∷ []) ≡ length text + 1 = length_push text 93 in
    inside_is (91 ∷ (text ++ 93 ∷ [])) text (length text) (omega arith) refl (rw add-one (get_or_push text 93 0 (length text) refl)) (take_front text (93 ∷ []))

sign_of : ℤ → ℕ
sign_of (pos n) = 43
sign_of (negsuc n) = 45

no_sign : (c : ℕ) → is_within 48 57 c ≡ true → not (is_stop Sign c) ≡ true
no_sign c h = grind (arith, nat_tests)

register_lacks : (r : ℕ) → r ≤ 10 → Lacks Sign (register_text r)
register_lacks r le = all-weaker (is_within 48 57) (λ c. not (is_stop Sign c)) no_sign (decimal r) (digits-decimal r (omega arith))

before_sign : (r : ℕ) (z : ℤ) → r ≤ 10 → before Sign (register_text r ++ signed_text z) ≡ register_text r
before_sign r (pos n) le = before-append Sign (register_text r) 43 (decimal n) (register_lacks r le) refl
before_sign r (negsuc n) le = before-append Sign (register_text r) 45 (decimal (suc n)) (register_lacks r le) refl

from_sign : (r : ℕ) (z : ℤ) → r ≤ 10 → from Sign (register_text r ++ signed_text z) ≡ signed_text z
from_sign r (pos n) le = from-append Sign (register_text r) 43 (decimal n) (register_lacks r le) refl
from_sign r (negsuc n) le = from-append Sign (register_text r) 45 (decimal (suc n)) (register_lacks r le) refl

offset_of-text : (z : ℤ) → IsSmall z → offset_of (signed_text z) ≡ Some (number_for z)
offset_of-text (pos n) small = let some : (length (43 ∷ decimal n) == 0) ≡ false = grind (arith, nat_tests) in rw (some, signed_of-text (pos n) small) refl
offset_of-text (negsuc n) small = let some : (length (45 ∷ decimal (suc n)) == 0) ≡ false = grind (arith, nat_tests) in rw (some, signed_of-text (negsuc n) small) refl

pub place_of-text : (r : ℕ) (z : ℤ) → r ≤ 10 → IsSmall z → place_of (place_text r z) ≡ Some (r, number_for z)
unfolding place_of
place_of-text r z le small =
    let e : inside (place_text r z) ≡ Some (register_text r ++ signed_text z) = inside-brackets (register_text r ++ signed_text z) in
    rw (e, before_sign r z le, from_sign r z le, register_of-text r le, offset_of-text z small) refl
