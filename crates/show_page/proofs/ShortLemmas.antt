-- The greatest length of a text after its characters are escaped.
use Rattle.std.proofs.Common.{ℕ, zero, suc, ◌+◌, ◌*◌, ◌-◌, ◌/◌, ◌%◌, ◌<◌, ◌≤◌, ◌≡◌, Bool, true, false, List, [], ◌∷◌, ◌++◌, length, length-append, refl, sym, ap, subst, ◌∙◌, arith, append-nil, codes, encode_utf8, encode_utf8_all, Option, None, Some}
use Rattle.std.specs.Prelude.{◌==◌, nat_le, nat_lt, if◌then◌else◌, unwrap_or}
use Rattle.std.specs.Str.{chars, chars_after, continuation_len, lead_bits}
use Rattle.std.proofs.Math.Utf8.{encode}
use Rattle.std.proofs.lemmas.Bool.{agree_below_at, cond_both, leb-true}
use Rattle.std.proofs.lemmas.Grind.{flat_map-append}
use Rattle.std.proofs.lemmas.Str.{encodes-append, len_utf8_bounds, length-encode}
use Rattle.html.specs.Escaped.{escaped, reference, shown as character, written}
use Rattle.html.specs.Page.{shown}
use Rattle.html.specs.Visible.{digit, fifth, is_hidden, made_visible, numbered, visible}

-- Escaped characters as bytes.
abbrev E : List ℕ → List ℕ
E cs = encode_utf8_all (escaped cs)

-- The length of a fixed text.
pub known : (text : List ℕ) (n : ℕ) → nat_le (length text) n ≡ true → length text ≤ n
known text n e = leb-true (length text) n e

-- The length of two joined texts.
pub both : (a b : List ℕ) (n m : ℕ) → length a ≤ n → length b ≤ m → length (a ++ b) ≤ n + m
both a b n m first second = omega (arith, length-append a b)

-- A text has at least one byte for each character.
after_short : (n c : ℕ) (bs : List ℕ) → length (chars_after n c bs) ≤ suc (length bs)
unfolding chars
after_short zero c [] = omega arith
after_short zero c (b ∷ bs) = let rest : length (chars_after (continuation_len b) (lead_bits b) bs) ≤ suc (length bs) = after_short (continuation_len b) (lead_bits b) bs in omega arith
after_short (suc n) c [] = omega arith
after_short (suc n) c (b ∷ bs) = let rest : length (chars_after n (c * 64 + (b - 128)) bs) ≤ suc (length bs) = after_short n (c * 64 + (b - 128)) bs in omega arith

chars_short : (bs : List ℕ) → length (chars bs) ≤ length bs
unfolding chars
chars_short [] = omega arith
chars_short (b ∷ bs) = after_short (continuation_len b) (lead_bits b) bs

-- A character, or the reference that replaces it, has at most six bytes.
record IsShort (c : ℕ) (o : Option (List ℕ)) : Type 0 where
  few : length (encode_utf8_all (unwrap_or o (character c ∷ []))) ≤ 6

by_itself : (c : ℕ) → IsShort c None
by_itself c =
    let x : ℕ = character c in
    let same : length (encode_utf8_all (x ∷ [])) ≡ length (encode_utf8 x) = ap length (append-nil (encode_utf8 x)) in
    let bytes : length (encode_utf8 x) ≤ 4 = omega (arith, length-encode x, (len_utf8_bounds x).1) in
    record { few = omega arith }

one_more : (c : ℕ) (b : Bool) (text : List ℕ) (rest : Option (List ℕ)) → nat_le (length (encode_utf8_all text)) 6 ≡ true → IsShort c rest → IsShort c (if b then Some text else rest)
one_more c true text rest e is = record { few = leb-true (length (encode_utf8_all text)) 6 e }
one_more c false text rest e is = is

written_short : (c : ℕ) → IsShort c (reference c)
unfolding encode
written_short c =
    one_more c (c == 38) (codes "&amp;") _ refl
    (one_more c (c == 60) (codes "&lt;") _ refl
    (one_more c (c == 62) (codes "&gt;") _ refl
    (one_more c (c == 34) (codes "&quot;") _ refl
    (one_more c (c == 39) (codes "&#39;") _ refl
    (one_more c (c == 9) (codes "&#9;") _ refl
    (one_more c (c == 10) (codes "&#10;") _ refl
    (one_more c (c == 13) (codes "&#13;") None refl (by_itself c))))))))

-- Two joined texts, escaped.
E_append : (xs ys : List ℕ) → E (xs ++ ys) ≡ E xs ++ E ys
E_append xs ys = ap encode_utf8_all (flat_map-append written xs ys) ∙ encodes-append (escaped xs) (escaped ys)

first_short : (c : ℕ) → length (E (c ∷ [])) ≤ 6
first_short c = subst (λ (xs : List ℕ). length (encode_utf8_all xs) ≤ 6) (sym (append-nil (written c))) (written_short c).few

-- The digits of a character's number.
digit_short : (d : ℕ) → d < 16 → length (E (digit d ∷ [])) ≤ 1
unfolding encode
digit_short d small = leb-true (length (E (digit d ∷ []))) 1 (agree_below_at (λ x. nat_le (length (E (digit x ∷ []))) 1) (λ _. true) 16 d refl small)

four_short : (a b c d : ℕ) → length (E (a ∷ [])) ≤ 1 → length (E (b ∷ [])) ≤ 1 → length (E (c ∷ [])) ≤ 1 → length (E (d ∷ [])) ≤ 1 → length (E (a ∷ b ∷ c ∷ d ∷ [])) ≤ 4
four_short a b c d h1 h2 h3 h4 =
    let e1 : length (E (a ∷ b ∷ c ∷ d ∷ [])) ≡ length (E (a ∷ []) ++ E (b ∷ c ∷ d ∷ [])) = ap length (E_append (a ∷ []) (b ∷ c ∷ d ∷ [])) in
    let e2 : length (E (b ∷ c ∷ d ∷ [])) ≡ length (E (b ∷ []) ++ E (c ∷ d ∷ [])) = ap length (E_append (b ∷ []) (c ∷ d ∷ [])) in
    let e3 : length (E (c ∷ d ∷ [])) ≡ length (E (c ∷ []) ++ E (d ∷ [])) = ap length (E_append (c ∷ []) (d ∷ [])) in
    omega (arith, length-append (E (a ∷ [])) (E (b ∷ c ∷ d ∷ [])), length-append (E (b ∷ [])) (E (c ∷ d ∷ [])), length-append (E (c ∷ [])) (E (d ∷ [])))

fifth_short : (c : ℕ) → length (E (fifth c)) ≤ 1
unfolding encode
fifth_short c = cond_both (nat_lt c 65536) [] (digit (c / 65536 % 16) ∷ []) (λ xs. length (E xs) ≤ 1) (λ _. omega arith) (λ _. digit_short (c / 65536 % 16) (omega arith))

number_short : (c : ℕ) → length (E (numbered c)) ≤ 9
unfolding encode
number_short c =
    let a : ℕ = digit (c / 4096 % 16) in
    let b : ℕ = digit (c / 256 % 16) in
    let d : ℕ = digit (c / 16 % 16) in
    let e : ℕ = digit (c % 16) in
    let digits : List ℕ = a ∷ b ∷ d ∷ e ∷ [] in
    let lead : List ℕ = fifth c in
    let same : length (E (numbered c)) ≡ length (E (codes "[U+") ++ E (lead ++ (digits ++ codes "]"))) = ap length (E_append (codes "[U+") (lead ++ (digits ++ codes "]"))) in
    let led : length (E (lead ++ (digits ++ codes "]"))) ≡ length (E lead ++ E (digits ++ codes "]")) = ap length (E_append lead (digits ++ codes "]")) in
    let rest : length (E (digits ++ codes "]")) ≡ length (E digits ++ E (codes "]")) = ap length (E_append digits (codes "]")) in
    let four : length (E digits) ≤ 4 =
    four_short a b d e (digit_short (c / 4096 % 16) (omega arith)) (digit_short (c / 256 % 16) (omega arith)) (digit_short (c / 16 % 16) (omega arith)) (digit_short (c % 16) (omega arith)) in
    let five = fifth_short c in
    let start : length (E (codes "[U+")) ≤ 3 = known (E (codes "[U+")) 3 refl in
    let end : length (E (codes "]")) ≤ 1 = known (E (codes "]")) 1 refl in
    omega (arith, length-append (E (codes "[U+")) (E (lead ++ (digits ++ codes "]"))), length-append (E lead) (E (digits ++ codes "]")), length-append (E digits) (E (codes "]")))

made_short : (c : ℕ) → length (E (made_visible c)) ≤ 9
made_short c = cond_both (is_hidden c) (numbered c) (c ∷ []) (λ xs. length (E xs) ≤ 9) (λ _. number_short c) (λ _. let few = first_short c in omega arith)

visible_short : (cs : List ℕ) → length (E (visible cs)) ≤ 9 * length cs
visible_short [] = omega arith
visible_short (c ∷ cs) =
    let same : length (E (visible (c ∷ cs))) ≡ length (E (made_visible c) ++ E (visible cs)) = ap length (E_append (made_visible c) (visible cs)) in
    let one : length (E (made_visible c)) ≤ 9 = made_short c in
    let more : length (E (visible cs)) ≤ 9 * length cs = visible_short cs in
    omega (arith, length-append (E (made_visible c)) (E (visible cs)))

pub shown_short : (text : List ℕ) (n : ℕ) → length text ≤ n → length (shown text) ≤ 9 * n
shown_short text n short =
    let told : length (shown text) ≤ 9 * length (chars text) = visible_short (chars text) in
    let fewer : length (chars text) ≤ length text = chars_short text in
    omega arith
