-- Lemmas about characters that are written unchanged.
use Rattle.std.proofs.Common.{ℕ, ◌<◌, ◌≤◌, ◌≡◌, Bool, true, not, ◌&&◌, ◌||◌, List, [], ◌∷◌, Option, Some, None, refl, sym, ap, ◌∙◌, arith, inl, inr, append-nil, encode_utf8, encode_utf8_all}
use Rattle.std.specs.Prelude.{◌==◌, nat_le, is_none, unwrap_or}
use Rattle.std.proofs.Math.Utf8.{encode}
use Rattle.std.proofs.lemmas.Bool.{agree_below_at, and_parts, cond-false, cond-true, eqb-true, leb-true, not-true, or_cases, true≢false}
use Rattle.html.specs.Escaped.{escaped, is_character, is_within, reference, shown, written}
use Rattle.html.specs.Visible.{is_hidden, is_plain, made_visible, numbered}

-- The facts that are tested for each character below 127.
abbrev is_right : ℕ → Bool
is_right c = not (is_plain c) || (not (is_hidden c) && is_none (reference c) && is_character c)

up_to : (low high c : ℕ) → is_within low high c ≡ true → c ≤ high
up_to low high c e = leb-true c high (and_parts (nat_le low c) (nat_le c high) e).1

pub small : (c : ℕ) → is_plain c ≡ true → c < 127
small c e =
    let a : Bool = is_within 32 33 c in
    let b : Bool = is_within 35 37 c in
    let d : Bool = is_within 40 59 c in
    let f : Bool = c == 61 in
    elim (or_cases (a || b || d || f) (is_within 63 126 c) e) [
      | inr last ↦ (let l = up_to 63 126 c last in omega arith)
      | inl four ↦ elim (or_cases (a || b || d) f four) [
        | inr same ↦ (let s : c ≡ 61 = eqb-true c 61 same in omega arith)
        | inl three ↦ elim (or_cases (a || b) d three) [
          | inr third ↦ (let l = up_to 40 59 c third in omega arith)
          | inl two ↦ elim (or_cases a b two) [
            | inr second ↦ (let l = up_to 35 37 c second in omega arith)
            | inl first ↦ (let l = up_to 32 33 c first in omega arith)
          ]
        ]
      ]
    ]

none_is : (o : Option (List ℕ)) → is_none o ≡ true → o ≡ None
none_is None e = refl
none_is (Some x) e = cc

one_encoded : (c : ℕ) → encode_utf8_all (c ∷ []) ≡ encode_utf8 c
one_encoded c = append-nil (encode_utf8 c)

as_it_is : (c : ℕ) → (not (is_hidden c) && is_none (reference c) && is_character c) ≡ true → encode_utf8_all (escaped (made_visible c)) ≡ encode_utf8 c
as_it_is c e =
    let last = and_parts (not (is_hidden c) && is_none (reference c)) (is_character c) e in
    let first = and_parts (not (is_hidden c)) (is_none (reference c)) last.0 in
    let seen : made_visible c ≡ c ∷ [] = cond-false (is_hidden c) (numbered c) (c ∷ []) (not-true (is_hidden c) first.0) in
    let same : shown c ≡ c = cond-true (is_character c) c 0xFFFD last.1 in
    let whole : written c ≡ c ∷ [] = ap (λ (o : Option (List ℕ)). unwrap_or o (shown c ∷ [])) (none_is (reference c) first.1) ∙ ap (λ (x : ℕ). x ∷ []) same in
    ap (λ (xs : List ℕ). encode_utf8_all (escaped xs)) seen
    ∙ (ap encode_utf8_all (append-nil (written c) ∙ whole) ∙ one_encoded c)

pub plain_written : (c : ℕ) → is_plain c ≡ true → encode_utf8_all (escaped (made_visible c)) ≡ encode_utf8 c
plain_written c plain = elim (or_cases (not (is_plain c)) (not (is_hidden c) && is_none (reference c) && is_character c) (agree_below_at is_right (λ _. true) 127 c refl (small c plain))) [
  | inl wrong ↦ absurd (true≢false (sym plain ∙ not-true (is_plain c) wrong))
  | inr right ↦ as_it_is c right
]
