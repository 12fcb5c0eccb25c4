-- A table to fill in does not depend on numbers being limited to 64 bits.
use Rattle.std.proofs.Common.{ℕ, ◌≡◌, ◌≤◌, ◌<◌, ◌+◌, ◌&&◌, List, arith, min, refl, true}
use Rattle.std.specs.Prelude.{Some, nat_le, nat_lt}
use Rattle.std.proofs.lemmas.Bool.{and_parts, leb-true, ltb-true}
use Rattle.text.specs.Number.{decimal_of}
use Rattle.combine.specs.Names.{default_rule}
use Rattle.book.specs.Forms.{form_text}
use Rattle.book.specs.Grammar.{is_within}
use Rattle.book.specs.Answers.{IsFormOf}
use Rattle.book.specs.Numbers.{numbers_in}

-- There are few generals, a small bound, and a commander who is one of them.
within_few : (n m c : ℕ) → is_within n m c ≡ true → (n ≤ 13) × (m ≤ 4) × (c < n)
within_few n m c h =
    let last = and_parts (nat_le n 13 && nat_le m 4 && nat_le (m + 2) n) (nat_lt c n) h in
    let middle = and_parts (nat_le n 13 && nat_le m 4) (nat_le (m + 2) n) last.0 in
    let first = and_parts (nat_le n 13) (nat_le m 4) middle.0 in
    (leb-true n 13 first.0, leb-true m 4 first.1, ltb-true c n last.1)

-- The numbers that the words are.
pub numbers_told : (a b k : List ℕ) (n m c : ℕ) → decimal_of a ≡ Some n → decimal_of b ≡ Some m → decimal_of k ≡ Some c → numbers_in a b k ≡ Some (n, m, c, default_rule)
unfolding numbers_in
numbers_told a b k n m c is_n is_m is_c = rw (is_n, is_m, is_c) refl

pub formed_uncut : (a b k : List ℕ) (n m c : ℕ) (n2 m2 c2 : ℕ) (text : List ℕ) → numbers_in a b k ≡ Some (n, m, c, default_rule)
    → n2 ≡ min n 18446744073709551615 → m2 ≡ min m 18446744073709551615 → c2 ≡ min c 18446744073709551615
    → is_within n2 m2 c2 ≡ true → text ≡ form_text n2 m2 c2 → IsFormOf a b k text
formed_uncut a b k n m c n2 m2 c2 text says is_n is_m is_c within formed =
    let few = within_few n2 m2 c2 within in
    let same_n : n2 ≡ n = omega (arith, few.0) in
    let same_m : m2 ≡ m = omega (arith, few.1) in
    let same_c : c2 ≡ c = omega (arith, few.0, few.2) in
    ((n, m, c, default_rule), says, rw (same_n, same_m, same_c) at within, rw (same_n, same_m, same_c) at formed)
