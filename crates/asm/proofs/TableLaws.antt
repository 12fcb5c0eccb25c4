-- What is read from the text of a register or a mnemonic.
use Rattle.std.proofs.Common.{◌≡◌, ℕ, ◌+◌, ◌-◌, ◌≤◌, Bool, true, false, cond, List, [], ◌∷◌, Option, Some, refl, ap, sym, subst, ◌∙◌, arith}
use Rattle.std.specs.Prelude.{decimal, ◌==◌, ◌&&◌}
use Rattle.std.specs.List.{AllByRecursion}
use Rattle.std.specs.Str.{bytes_eq}
use Rattle.std.proofs.lemmas.Bool.Decides.{nat_tests}
use Rattle.std.proofs.lemmas.Fmt.{decimal_digit}
use Rattle.std.proofs.lemmas.Slice.Eq.{bytes_eq-Decides}
use Rattle.std.proofs.lemmas.Bool.{and_parts}
use Rattle.std.proofs.lemmas.Option.{cond_some}
use Rattle.text.specs.Stop.{is_within}
use Rattle.asm.specs.declared.mnemonic.Mnemonic.{Mnemonic}
use Rattle.asm.specs.Operand.{register_of}
use Rattle.asm.specs.Table.{IsMnemonic, name_of, mnemonics, first_named, mnemonic_of}
use Rattle.asm.specs.Printing.{register_text}
use Rattle.asm.proofs.OperandLemmas.{ten_text}

is_byte : (c d : ℕ) → c == d ≡ true → c ≡ d
is_byte c d h = grind (arith, nat_tests)

digit_from : (a : ℕ) → is_within 48 57 a ≡ true → (48 ≤ a) × (a ≤ 57)
digit_from a h = (grind (arith, nat_tests), grind (arith, nat_tests))

one_digit : (c a r : ℕ) → (c == 114 && is_within 48 57 a ≡ true) × (a - 48 ≡ r) → (r ≤ 10) × (c ∷ a ∷ [] ≡ register_text r)
one_digit c a r h =
    let letter : c ≡ 114 = is_byte c 114 (and_parts (c == 114) _ h.0).0 in
    let digit : (48 ≤ a) × (a ≤ 57) = digit_from a (and_parts (c == 114) _ h.0).1 in
    let low : 48 ≤ a = digit.0 in
    let high : a ≤ 57 = digit.1 in
    let e : a - 48 ≡ r = h.1 in
    let is : a ≡ 48 + r = omega arith in
    let text : decimal r ≡ (48 + r) ∷ [] = decimal_digit r (omega arith) in
    (omega arith, cc)

two_digits : (c a b r : ℕ) → (c == 114 && a == 49 && b == 48 ≡ true) × (10 ≡ r) → (r ≤ 10) × (c ∷ a ∷ b ∷ [] ≡ register_text r)
two_digits c a b r h =
    let letter : c ≡ 114 = is_byte c 114 (and_parts (c == 114) _ (and_parts (c == 114 && a == 49) _ h.0).0).0 in
    let one : a ≡ 49 = is_byte a 49 (and_parts (c == 114) _ (and_parts (c == 114 && a == 49) _ h.0).0).1 in
    let zero : b ≡ 48 = is_byte b 48 (and_parts (c == 114 && a == 49) _ h.0).1 in
    let e : 10 ≡ r = h.1 in
    let text : decimal r ≡ 49 ∷ 48 ∷ [] = ap decimal (sym e) ∙ ten_text in
    (omega arith, cc)

pub register_read : (text : List ℕ) (r : ℕ) → register_of text ≡ Some r → (r ≤ 10) × (text ≡ register_text r)
unfolding register_of
register_read [] r h = absurd cc
register_read (c ∷ []) r h = absurd cc
register_read (c ∷ a ∷ []) r h = one_digit c a r (cond_some _ (a - 48) r h)
register_read (c ∷ a ∷ b ∷ []) r h = two_digits c a b r (cond_some _ 10 r h)
register_read (c ∷ a ∷ b ∷ d ∷ rest) r h = absurd cc

-- Equal bytes.
same_bytes : (xs ys : List ℕ) → bytes_eq xs ys ≡ true → xs ≡ ys
same_bytes xs ys h = (bytes_eq-Decides xs ys).0 h

-- The first mnemonic with this text.
first_is : (b : Bool) (x m : Mnemonic) (word : List ℕ) (rest : Option Mnemonic) → (b ≡ true → name_of x ≡ word) → IsMnemonic x → (rest ≡ Some m → IsMnemonic m × (word ≡ name_of m))
    → cond b (Some x) rest ≡ Some m → IsMnemonic m × (word ≡ name_of m)
first_is true x m word rest same well ih h = let e : x ≡ m = cc in let P : Mnemonic → Type 0 = λ y. IsMnemonic y × (word ≡ name_of y) in subst P e (well, sym (same refl))
first_is false x m word rest same well ih h = ih h

named_is : (word : List ℕ) (ms : List Mnemonic) (m : Mnemonic) → AllByRecursion IsMnemonic ms → first_named word ms ≡ Some m → IsMnemonic m × (word ≡ name_of m)
named_is word [] m well h = absurd cc
named_is word (x ∷ xs) m well h = first_is (bytes_eq (name_of x) word) x m word (first_named word xs) (same_bytes (name_of x) word) well.0 (named_is word xs m well.1) h

all_mnemonics : AllByRecursion IsMnemonic mnemonics
unfolding mnemonics
all_mnemonics = (tt, (tt, (tt, (tt, (tt, (tt, (tt, (tt, (tt, (tt, (tt, (tt, (tt, (tt, (tt, (tt, (tt, (tt, (tt, (tt, (tt, (tt, (tt, (tt, (tt, (tt, (tt, (tt, (tt, (tt, (tt, (tt, (tt, (tt, (tt, (tt, (tt, (tt, (tt, (tt, (tt, (tt, (tt, (tt, (tt, (tt, (tt, (tt, (tt, (tt, (tt, (tt, (tt, (tt, (tt, (tt, (tt, (tt, (tt, (tt, (tt, (tt, (tt, (tt, (tt, (tt, (tt, (tt, (tt, (tt, (tt, (tt, (tt, (tt, (tt, (tt, (tt, (tt, (tt, (tt, (tt, (tt, (tt, (tt, (tt, (tt, tt))))))))))))))))))))))))))))))))))))))))))))))))))))))))))))))))))))))))))))))))))))))

pub mnemonic_read : (word : List ℕ) (m : Mnemonic) → mnemonic_of word ≡ Some m → IsMnemonic m × (word ≡ name_of m)
unfolding mnemonic_of
mnemonic_read word m h = named_is word mnemonics m all_mnemonics h
