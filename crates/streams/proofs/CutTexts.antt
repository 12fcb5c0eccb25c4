-- Proves where a text may be cut: after a character, or within its last one (Unicode, table 3-7).
use Rattle.std.proofs.Common.{ℕ, ◌≡◌, ◌+◌, ◌/◌, ◌≤◌, ◌<◌, ◌⊎◌, ◌++◌, ◌∷◌, [], ◌∙◌, List, length, take, drop, Bool, true, false, cond, ◌==◌, arith, inl, inr, subst, sym, ap, ⊎_elim}
use Rattle.std.specs.Prelude.{◌↔◌, IsTrue, Option, Some, None, is_some, not, slice_index, nat_lt}
use Rattle.std.specs.Int.{is_in_range}
use Rattle.std.specs.Char.{IsScalar, encode_utf8}
use Rattle.std.specs.Str.{IsUtf8, IsValidUpTo, all_scalars, encode_utf8_all}
use Rattle.std.specs.Str.Lossy.{error_len_after_one, error_len_after_two, error_len_of_some, second_byte_max, second_byte_min, utf8_error_len}
use Rattle.std.proofs.lemmas.Bool.{and_from, and_parts, both_ways, cases_Bool, cases_eq, cases_lt, cases_order, cond-false, cond-true, cond_both, eqb-true, le-leb, le-ltb, leb-true, ne_eqb, not-false, not-true}
use Rattle.std.proofs.lemmas.List.{append-nil, append_assoc, drop-append-le, length-append, length-drop, take-append-drop, take-append-le}
use Rattle.std.proofs.lemmas.Str.{IsUtf8-append, IsUtf8-encode}
use Rattle.std.proofs.iter.FirstChar.{after_text}
use Rattle.std.proofs.str.Laws.{one, two, three, four}
use Rattle.std.proofs.str.Valid.{longer, of_two, of_three, of_four}
use lib.Utf8.{next, scalar_cases}
use Rattle.streams.specs.Reading.{MayBeginText}

abbrev Follows : ℕ → Type 0
Follows b = (128 ≤ b) × (b < 192)

-- The byte y may follow the first byte x of a character.
record Second (x y : ℕ) : Type 0 where
  low : 128 ≤ y
  high : y < 192
  three_least : x ≡ 224 → 160 ≤ y
  three_most : x ≡ 237 → y < 160
  four_least : x ≡ 240 → 144 ≤ y
  four_most : x ≡ 244 → y < 144

within : (lo hi c : ℕ) → lo ≤ c → c ≤ hi → is_in_range lo hi c ≡ true
within lo hi c l h = and_from _ _ (le-leb lo c l) (le-leb c hi h)

bounds : (lo hi c : ℕ) → is_in_range lo hi c ≡ true → (lo ≤ c) × (c ≤ hi)
bounds lo hi c e = let parts = and_parts _ _ e in (leb-true lo c parts.0, leb-true c hi parts.1)

-- ---- the second byte of a character

least : (x : ℕ) → (128 ≤ second_byte_min x) × (second_byte_min x < 161)
least x = cond_both (x == 224) 160 _ (λ n. (128 ≤ n) × (n < 161)) (λ _. (omega arith, omega arith))
    (λ _. cond_both (x == 240) 144 128 (λ n. (128 ≤ n) × (n < 161)) (λ _. (omega arith, omega arith)) (λ _. (omega arith, omega arith)))

most : (x : ℕ) → second_byte_max x < 192
most x = cond_both (x == 237) 159 _ (λ n. n < 192) (λ _. omega arith)
    (λ _. cond_both (x == 244) 143 191 (λ n. n < 192) (λ _. omega arith) (λ _. omega arith))

second : (x y : ℕ) → is_in_range (second_byte_min x) (second_byte_max x) y ≡ true → Second x y
second x y e =
    let b = bounds _ _ y e in
    let low : second_byte_min x ≤ y = b.0 in
    let high : y ≤ second_byte_max x = b.1 in
    let at_least : 128 ≤ second_byte_min x = (least x).0 in
    let at_most : second_byte_max x < 192 = most x in
    record {
      low = omega arith;
      high = omega arith;
      three_least = λ i. subst (λ k. second_byte_min k ≤ y) i low;
      three_most = λ i. let h : y ≤ 159 = subst (λ k. y ≤ second_byte_max k) i high in omega arith;
      four_least = λ i. subst (λ k. second_byte_min k ≤ y) i low;
      four_most = λ i. let h : y ≤ 143 = subst (λ k. y ≤ second_byte_max k) i high in omega arith;
    }

in_second : (x y : ℕ) → Second x y → is_in_range (second_byte_min x) (second_byte_max x) y ≡ true
in_second x y s = within _ _ y
    (cond_both (x == 224) 160 _ (λ n. n ≤ y) (λ i. s.three_least (eqb-true x 224 i))
    (λ _. cond_both (x == 240) 144 128 (λ n. n ≤ y) (λ i. s.four_least (eqb-true x 240 i)) (λ _. s.low)))
    (cond_both (x == 237) 159 _ (λ n. y ≤ n) (λ i. let h : y < 160 = s.three_most (eqb-true x 237 i) in omega arith)
    (λ _. cond_both (x == 244) 143 191 (λ n. y ≤ n) (λ i. let h : y < 144 = s.four_most (eqb-true x 244 i) in omega arith)
    (λ _. let h : y < 192 = s.high in omega arith)))

-- The least byte that may follow the first byte of a character.
first_second : (x : ℕ) → Second x (second_byte_min x)
first_second x =
    let low : 128 ≤ second_byte_min x = (least x).0 in
    let high : second_byte_min x < 161 = (least x).1 in
    record {
      low = low;
      high = omega arith;
      three_least = λ i. let h : second_byte_min x ≡ 160 = ap second_byte_min i in omega arith;
      three_most = λ i. let h : second_byte_min x ≡ 128 = ap second_byte_min i in omega arith;
      four_least = λ i. let h : second_byte_min x ≡ 144 = ap second_byte_min i in omega arith;
      four_most = λ i. let h : second_byte_min x ≡ 128 = ap second_byte_min i in omega arith;
    }

-- ---- characters of two, three and four bytes

two_is : (x y : ℕ) → 194 ≤ x → x < 224 → Follows y → IsUtf8 (x ∷ y ∷ [])
two_is x y l h f = of_two (x ∷ y ∷ []) 0 (omega arith) (l, h) f

three_is : (x y z : ℕ) → 224 ≤ x → x < 240 → Second x y → Follows z → IsUtf8 (x ∷ y ∷ z ∷ [])
three_is x y z l h s f =
    let low : 128 ≤ y = s.low in
    let high : y < 192 = s.high in
    let from : 128 ≤ z = f.0 in
    let to : z < 192 = f.1 in
    of_three (x ∷ y ∷ z ∷ []) 0 (omega arith) (l, h) (low, high) f
    (⊎_elim (λ i. let k : 160 ≤ y = s.three_least i in omega arith) (λ ne. omega arith) (cases_eq x 224))
    (⊎_elim (λ i. let k : y < 160 = s.three_most i in inl (omega arith))
    (⊎_elim (λ (below : x < 237). inl (omega arith)) (λ (above : 237 < x). inr (omega arith))) (cases_order x 237))

four_is : (x y z w : ℕ) → 240 ≤ x → x ≤ 244 → Second x y → Follows z → Follows w → IsUtf8 (x ∷ y ∷ z ∷ w ∷ [])
four_is x y z w l h s f g =
    let low : 128 ≤ y = s.low in
    let high : y < 192 = s.high in
    of_four (x ∷ y ∷ z ∷ w ∷ []) 0 (omega arith) l (low, high) f g (
      ⊎_elim (λ i. let k : 144 ≤ y = s.four_least i in omega arith) (λ ne. omega arith) (cases_eq x 240),
      ⊎_elim (λ i. let k : y < 144 = s.four_most i in omega arith) (λ ne. omega arith) (cases_eq x 244),
    )

-- ---- bytes without a fault can be continued to a text

abbrev Begins : List ℕ → Type 0
Begins t = (rest : List ℕ) × IsUtf8 (t ++ rest)

-- The bytes begin with no character.
abbrev StartsWithNone : List ℕ → Type 0
StartsWithNone t = (w : ℕ) → 0 < w → IsUtf8 (take w t) → ⊥

least_follows : Follows 128
least_follows = (omega arith, omega arith)

one_begins : (x : ℕ) → 194 ≤ x → x ≤ 244 → Begins (x ∷ [])
one_begins x l h = ⊎_elim
    (λ below. (128 ∷ [], two_is x 128 l below least_follows))
    (λ above. ⊎_elim
    (λ below. (second_byte_min x ∷ 128 ∷ [], three_is x (second_byte_min x) 128 above below (first_second x) least_follows))
    (λ over. (second_byte_min x ∷ 128 ∷ 128 ∷ [], four_is x (second_byte_min x) 128 128 over h (first_second x) least_follows least_follows))
    (cases_lt x 240))
    (cases_lt x 224)

two_begin : (x y : ℕ) → 194 ≤ x → x ≤ 244 → Second x y → (IsUtf8 (x ∷ y ∷ []) → ⊥) → Begins (x ∷ y ∷ [])
two_begin x y l h s none = ⊎_elim
    (λ below. absurd (none (two_is x y l below (s.low, s.high))))
    (λ above. ⊎_elim
    (λ below. (128 ∷ [], three_is x y 128 above below s least_follows))
    (λ over. (128 ∷ 128 ∷ [], four_is x y 128 128 over h s least_follows least_follows))
    (cases_lt x 240))
    (cases_lt x 224)

three_begin : (x y z : ℕ) → 194 ≤ x → x ≤ 244 → Second x y → Follows z → (IsUtf8 (x ∷ y ∷ []) → ⊥) → (IsUtf8 (x ∷ y ∷ z ∷ []) → ⊥) → Begins (x ∷ y ∷ z ∷ [])
three_begin x y z l h s f two_none three_none = ⊎_elim
    (λ below. absurd (two_none (two_is x y l below (s.low, s.high))))
    (λ above. ⊎_elim
    (λ below. absurd (three_none (three_is x y z above below s f)))
    (λ over. (128 ∷ [], four_is x y z 128 over h s f least_follows))
    (cases_lt x 240))
    (cases_lt x 224)

some_none : {n : ℕ} → Some n ≡ None → ⊥
some_none e = cc

led : (t : List ℕ) → error_len_of_some t ≡ None → (194 ≤ slice_index t 0) × (slice_index t 0 ≤ 244) × (error_len_after_one t ≡ None)
led t e = ⊎_elim
    (λ is. let b = bounds 194 244 (slice_index t 0) is in (b.0, b.1, sym (cond-true _ _ _ is) ∙ e))
    (λ is. absurd (some_none (sym (cond-false _ (error_len_after_one t) (Some 1) is) ∙ e)))
    (cases_Bool (is_in_range 194 244 (slice_index t 0)))

seconded : (t : List ℕ) → 2 ≤ length t → error_len_after_one t ≡ None → Second (slice_index t 0) (slice_index t 1) × (error_len_after_two t ≡ None)
seconded t long e =
    let x = slice_index t 0 in
    let b = is_in_range (second_byte_min x) (second_byte_max x) (slice_index t 1) in
    let rest : cond b (error_len_after_two t) (Some 1) ≡ None = sym (cond-false _ _ _ (le-ltb (length t) 2 long)) ∙ e in ⊎_elim
    (λ is. (second x (slice_index t 1) is, sym (cond-true b _ _ is) ∙ rest))
    (λ is. absurd (some_none (sym (cond-false b (error_len_after_two t) (Some 1) is) ∙ rest)))
    (cases_Bool b)

thirded : (t : List ℕ) → 3 ≤ length t → error_len_after_two t ≡ None → Follows (slice_index t 2) × (length t < 4)
thirded t long e =
    let b = is_in_range 128 191 (slice_index t 2) in
    let inner : Option ℕ = cond (nat_lt (length t) 4) None (Some 3) in
    let rest : cond b inner (Some 2) ≡ None = sym (cond-false _ _ _ (le-ltb (length t) 3 long)) ∙ e in ⊎_elim
    (λ is.
    let f = bounds 128 191 (slice_index t 2) is in
    let low : 128 ≤ slice_index t 2 = f.0 in
    let high : slice_index t 2 ≤ 191 = f.1 in
    let last : inner ≡ None = sym (cond-true b inner (Some 2) is) ∙ rest in (
      (low, omega arith),
      ⊎_elim (λ (short : length t < 4). short)
          (λ (more : 4 ≤ length t). absurd (some_none (sym (cond-false _ None (Some 3) (le-ltb (length t) 4 more)) ∙ last))) (cases_lt (length t) 4),
    ))
    (λ is. absurd (some_none (sym (cond-false b inner (Some 2) is) ∙ rest)))
    (cases_Bool b)

goes_on : (t : List ℕ) → 0 < length t → StartsWithNone t → error_len_of_some t ≡ None → Begins t
goes_on [] some none e = absurd (omega arith)
goes_on (x ∷ []) some none e = let l = led (x ∷ []) e in one_begins x l.0 l.1
goes_on (x ∷ y ∷ []) some none e =
    let l = led (x ∷ y ∷ []) e in
    let s = seconded (x ∷ y ∷ []) (omega arith) l.2 in
    two_begin x y l.0 l.1 s.0 (none 2 (omega arith))
goes_on (x ∷ y ∷ z ∷ []) some none e =
    let l = led (x ∷ y ∷ z ∷ []) e in
    let s = seconded (x ∷ y ∷ z ∷ []) (omega arith) l.2 in
    let f = thirded (x ∷ y ∷ z ∷ []) (omega arith) s.1 in
    three_begin x y z l.0 l.1 s.0 f.0 (none 2 (omega arith)) (none 3 (omega arith))
goes_on (x ∷ y ∷ z ∷ w ∷ t) some none e =
    let l = led (x ∷ y ∷ z ∷ w ∷ t) e in
    let s = seconded (x ∷ y ∷ z ∷ w ∷ t) (omega arith) l.2 in
    let f = thirded (x ∷ y ∷ z ∷ w ∷ t) (omega arith) s.1 in
    let short : length (x ∷ y ∷ z ∷ w ∷ t) < 4 = f.1 in absurd (omega arith)

-- ---- bytes that can be continued to a text have no fault

one_is_led : (x : ℕ) → 194 ≤ x → x ≤ 244 → error_len_of_some (x ∷ []) ≡ None
one_is_led x l h = cond-true _ _ _ (within 194 244 x l h)

two_are_led : (x y : ℕ) → 194 ≤ x → x ≤ 244 → Second x y → error_len_of_some (x ∷ y ∷ []) ≡ None
two_are_led x y l h s = cond-true _ _ _ (within 194 244 x l h) ∙ cond-true _ _ _ (in_second x y s)

three_are_led : (x y z : ℕ) → 194 ≤ x → x ≤ 244 → Second x y → Follows z → error_len_of_some (x ∷ y ∷ z ∷ []) ≡ None
three_are_led x y z l h s f =
    let low : 128 ≤ z = f.0 in
    let high : z < 192 = f.1 in
    cond-true _ _ _ (within 194 244 x l h) ∙ (cond-true _ _ _ (in_second x y s) ∙ cond-true _ _ _ (within 128 191 z low (omega arith)))

module _ (t rest tail : List ℕ) (some : 0 < length t) (none : StartsWithNone t) where
  of_one_byte : (a : ℕ) → IsUtf8 (a ∷ []) → a ∷ tail ≡ t ++ rest → error_len_of_some t ≡ None
  of_one_byte a is e = by t some none e
    where
      by : (t : List ℕ) → 0 < length t → StartsWithNone t → a ∷ tail ≡ t ++ rest → error_len_of_some t ≡ None
      by [] some none e = absurd (omega arith)
      by (x ∷ t) some none e = let same : a ≡ x = cc in absurd (none 1 (omega arith) (subst (λ k. IsUtf8 (k ∷ [])) same is))

  of_two_bytes : (a b : ℕ) → 194 ≤ a → a ≤ 244 → IsUtf8 (a ∷ b ∷ []) → a ∷ b ∷ tail ≡ t ++ rest → error_len_of_some t ≡ None
  of_two_bytes a b l h is e = by t some none e
    where
      by : (t : List ℕ) → 0 < length t → StartsWithNone t → a ∷ b ∷ tail ≡ t ++ rest → error_len_of_some t ≡ None
      by [] some none e = absurd (omega arith)
      by (x ∷ []) some none e = let same : a ≡ x = cc in subst (λ k. error_len_of_some (k ∷ []) ≡ None) same (one_is_led a l h)
      by (x ∷ y ∷ t) some none e =
          let first : a ≡ x = cc in
          let next : b ≡ y = cc in
          absurd (none 2 (omega arith) (subst (λ k. IsUtf8 (k ∷ y ∷ [])) first (subst (λ k. IsUtf8 (a ∷ k ∷ [])) next is)))

  of_three_bytes : (a b d : ℕ) → 194 ≤ a → a ≤ 244 → Second a b → IsUtf8 (a ∷ b ∷ d ∷ []) → a ∷ b ∷ d ∷ tail ≡ t ++ rest → error_len_of_some t ≡ None
  of_three_bytes a b d l h s is e = by t some none e
    where
      by : (t : List ℕ) → 0 < length t → StartsWithNone t → a ∷ b ∷ d ∷ tail ≡ t ++ rest → error_len_of_some t ≡ None
      by [] some none e = absurd (omega arith)
      by (x ∷ []) some none e = let same : a ≡ x = cc in subst (λ k. error_len_of_some (k ∷ []) ≡ None) same (one_is_led a l h)
      by (x ∷ y ∷ []) some none e =
          let first : a ≡ x = cc in
          let next : b ≡ y = cc in
          subst (λ k. error_len_of_some (k ∷ y ∷ []) ≡ None) first (subst (λ k. error_len_of_some (a ∷ k ∷ []) ≡ None) next (two_are_led a b l h s))
      by (x ∷ y ∷ z ∷ t) some none e =
          let first : a ≡ x = cc in
          let next : b ≡ y = cc in
          let last : d ≡ z = cc in
          absurd (none 3 (omega arith)
          (subst (λ k. IsUtf8 (k ∷ y ∷ z ∷ [])) first (subst (λ k. IsUtf8 (a ∷ k ∷ z ∷ [])) next (subst (λ k. IsUtf8 (a ∷ b ∷ k ∷ [])) last is))))

  of_four_bytes : (a b d g : ℕ) → 194 ≤ a → a ≤ 244 → Second a b → Follows d → IsUtf8 (a ∷ b ∷ d ∷ g ∷ []) → a ∷ b ∷ d ∷ g ∷ tail ≡ t ++ rest
      → error_len_of_some t ≡ None
  of_four_bytes a b d g l h s f is e = by t some none e
    where
      by : (t : List ℕ) → 0 < length t → StartsWithNone t → a ∷ b ∷ d ∷ g ∷ tail ≡ t ++ rest → error_len_of_some t ≡ None
      by [] some none e = absurd (omega arith)
      by (x ∷ []) some none e = let same : a ≡ x = cc in subst (λ k. error_len_of_some (k ∷ []) ≡ None) same (one_is_led a l h)
      by (x ∷ y ∷ []) some none e =
          let first : a ≡ x = cc in
          let next : b ≡ y = cc in
          subst (λ k. error_len_of_some (k ∷ y ∷ []) ≡ None) first (subst (λ k. error_len_of_some (a ∷ k ∷ []) ≡ None) next (two_are_led a b l h s))
      by (x ∷ y ∷ z ∷ []) some none e =
          let first : a ≡ x = cc in
          let next : b ≡ y = cc in
          let last : d ≡ z = cc in
          subst (λ k. error_len_of_some (k ∷ y ∷ z ∷ []) ≡ None) first
          (subst (λ k. error_len_of_some (a ∷ k ∷ z ∷ []) ≡ None) next (subst (λ k. error_len_of_some (a ∷ b ∷ k ∷ []) ≡ None) last (three_are_led a b d l h s f)))
      by (x ∷ y ∷ z ∷ w ∷ t) some none e =
          let first : a ≡ x = cc in
          let next : b ≡ y = cc in
          let third : d ≡ z = cc in
          let last : g ≡ w = cc in
          absurd (none 4 (omega arith)
          (subst (λ k. IsUtf8 (k ∷ y ∷ z ∷ w ∷ [])) first (subst (λ k. IsUtf8 (a ∷ k ∷ z ∷ w ∷ [])) next
          (subst (λ k. IsUtf8 (a ∷ b ∷ k ∷ w ∷ [])) third (subst (λ k. IsUtf8 (a ∷ b ∷ d ∷ k ∷ [])) last is)))))

  -- Bytes that end within the character with which the text continues have no fault.
  of_char : (c : ℕ) → IsScalar c → encode_utf8 c ++ tail ≡ t ++ rest → error_len_of_some t ≡ None
  of_char c sc e = by (cases_lt c 128) (cases_lt c 2048) (cases_lt c 65536) (scalar_cases c sc)
    where
      is : IsUtf8 (encode_utf8 c)
      is = IsUtf8-encode c sc

      spelt : (l : List ℕ) → encode_utf8 c ≡ l → l ++ tail ≡ t ++ rest
      spelt l i = ap (λ k. k ++ tail) (sym i) ∙ e

      by : (c < 128) ⊎ (128 ≤ c) → (c < 2048) ⊎ (2048 ≤ c) → (c < 65536) ⊎ (65536 ≤ c) → (c < 55296) ⊎ ((57343 < c) × (c < 1114112)) → error_len_of_some t ≡ None
      by (inl h) _ _ _ = of_one_byte c (subst IsUtf8 (one c h) is) (spelt _ (one c h))
      by (inr l) (inl h) _ _ = of_two_bytes (192 + c / 64) (next c) (omega arith) (omega arith) (subst IsUtf8 (two c l h) is) (spelt _ (two c l h))
      by (inr _) (inr l) (inl h) (inl low) = of_three_bytes (224 + c / 4096) (next (c / 64)) (next c) (omega arith) (omega arith)
          (record { low = omega arith; high = omega arith; three_least = λ i. omega arith; three_most = λ i. omega arith; four_least = λ i. absurd (omega arith); four_most = λ i. absurd (omega arith) })
          (subst IsUtf8 (three c l h) is) (spelt _ (three c l h))
      by (inr _) (inr l) (inl h) (inr high) = let above : 57343 < c = high.0 in of_three_bytes (224 + c / 4096) (next (c / 64)) (next c) (omega arith) (omega arith)
          (record { low = omega arith; high = omega arith; three_least = λ i. absurd (omega arith); three_most = λ i. absurd (omega arith); four_least = λ i. absurd (omega arith); four_most = λ i. absurd (omega arith) })
          (subst IsUtf8 (three c l h) is) (spelt _ (three c l h))
      by (inr _) (inr _) (inr l) (inl low) = absurd (omega arith)
      by (inr _) (inr _) (inr l) (inr high) = let top : c < 1114112 = high.1 in of_four_bytes (240 + c / 262144) (next (c / 4096)) (next (c / 64)) (next c) (omega arith) (omega arith)
          (record { low = omega arith; high = omega arith; three_least = λ i. absurd (omega arith); three_most = λ i. absurd (omega arith); four_least = λ i. omega arith; four_most = λ i. omega arith })
          (omega arith, omega arith) (subst IsUtf8 (four c l) is) (spelt _ (four c l))

not_at_fault : (t rest : List ℕ) → 0 < length t → StartsWithNone t → IsUtf8 (t ++ rest) → error_len_of_some t ≡ None
not_at_fault t rest some none u = by u.0 u.1.0 u.1.1
  where
    by : (cs : List ℕ) → all_scalars cs ≡ true → encode_utf8_all cs ≡ t ++ rest → error_len_of_some t ≡ None
    by [] ok e = let long : 0 ≡ length (t ++ rest) = ap length e in absurd (omega (arith, length-append t rest))
    by (c ∷ cs) ok e = of_char t rest (encode_utf8_all cs) some none c (and_parts _ _ ok).0 e

-- ---- whole texts, and bytes after a valid part

pub whole : (front : List ℕ) → IsUtf8 front → MayBeginText front
whole front is = ([], subst IsUtf8 (sym (append-nil front)) is)

module _ (front : List ℕ) (n : ℕ) (valid : IsValidUpTo front n) where
  some_left : 0 < length (drop n front)
  some_left = let short : n < length front = valid.short in omega (arith, length-drop n front)

  none_left : StartsWithNone (drop n front)
  none_left w more is = valid.longest (n + w) (omega arith) (longer front n w valid.front is)

  by_error : utf8_error_len (drop n front) ≡ error_len_of_some (drop n front)
  unfolding utf8_error_len
  by_error = cond-false _ _ _ (ne_eqb (length (drop n front)) 0 (let some = some_left in omega arith))

  -- Bytes that end within a character can be continued to a text.
  pub ends_within : utf8_error_len (drop n front) ≡ None → MayBeginText front
  ends_within e =
      let further = goes_on (drop n front) some_left none_left (sym by_error ∙ e) in
      let split : front ++ further.0 ≡ take n front ++ (drop n front ++ further.0) =
      ap (λ l. l ++ further.0) (sym (take-append-drop n front)) ∙ append_assoc (take n front) (drop n front) further.0 in
      (further.0, subst IsUtf8 (sym split) (IsUtf8-append (take n front) (drop n front ++ further.0) valid.front further.1))

  pub ends_so : MayBeginText front → utf8_error_len (drop n front) ≡ None
  ends_so begins =
      let rest = begins.0 in
      let inside : n ≤ length front = (let short : n < length front = valid.short in omega arith) in
      let behind : IsUtf8 (drop n (front ++ rest)) =
      after_text (front ++ rest) n begins.1 (subst IsUtf8 (sym (take-append-le n front rest inside)) valid.front) in
      by_error ∙ not_at_fault (drop n front) rest some_left none_left (subst IsUtf8 (drop-append-le n front rest inside) behind)

pub answered : (front : List ℕ) (n : ℕ) (fault len : Option ℕ) (taken : Bool) → IsValidUpTo front n → fault ≡ utf8_error_len (drop n front) → len ≡ fault → is_some len ≡ not taken
    → IsTrue taken ↔ MayBeginText front
answered front n fault None taken valid is same e =
    let yes : taken ≡ true = not-false taken (sym e) in
    (λ _. ends_within front n valid (sym is ∙ sym same), λ _. yes)
answered front n fault (Some k) taken valid is same e =
    let no : taken ≡ false = not-true taken (sym e) in
    (λ yes. absurd (both_ways taken no yes), λ begins. absurd (some_none (same ∙ (is ∙ ends_so front n valid begins))))
