-- Proves that visible text contains no hidden character.
use Rattle.std.proofs.Common.{ℕ, ◌+◌, ◌/◌, ◌%◌, ◌<◌, ◌≤◌, ◌≡◌, Bool, true, false, not, ◌&&◌, ◌||◌, List, [], ◌∷◌, ◌++◌, refl, ap, ◌∙◌, arith, codes}
use Rattle.std.specs.Prelude.{nat_le, nat_lt}
use Rattle.std.specs.List.{list_all}
use Rattle.std.proofs.lemmas.Bool.{and_from, and_parts, cond-false, cond_both, lt-leb, ltb-true, ne_eqb, not-true, or_from}
use Rattle.std.proofs.lemmas.List.Folds.{list_all-append}
use Rattle.html.specs.Escaped.{is_within}
use Rattle.html.specs.Laws.{TextsAreVisible}
use Rattle.html.specs.Visible.{digit, fifth, is_control, is_hidden, is_ignored, is_ignored_above, is_ignored_below, made_visible, numbered, visible}

abbrev is_seen : ℕ → Bool
is_seen c = not (is_hidden c)

off : (x y : Bool) → y ≡ false → (x && y) ≡ false
off true y h = h
off false y h = refl

above : (low high c : ℕ) → high < c → is_within low high c ≡ false
above low high c h = off (nat_le low c) (nat_le c high) (lt-leb c high h)

under : (low high c : ℕ) → c < low → is_within low high c ≡ false
under low high c h = ap (λ b. b && nat_le c high) (lt-leb low c h)

-- No printable ASCII character is hidden.
no_control : (c : ℕ) → 32 ≤ c → c < 127 → is_control c ≡ false
no_control c low high = or_from _ _ (or_from _ _ (or_from _ _ (above 0 8 c (omega arith)) (above 11 12 c (omega arith))) (above 14 31 c (omega arith))) (under 127 159 c (omega arith))

not_below : (c : ℕ) → c < 127 → is_ignored_below c ≡ false
not_below c high =
    or_from _ _ (or_from _ _ (or_from _ _ (or_from _ _ (or_from _ _ (ne_eqb c 0xAD (λ e. omega arith)) (ne_eqb c 0x34F (λ e. omega arith))) (ne_eqb c 0x61C (λ e. omega arith)))
    (under 0x115F 0x1160 c (omega arith))) (under 0x17B4 0x17B5 c (omega arith))) (under 0x180B 0x180F c (omega arith))

not_ignored : (c : ℕ) → c < 127 → is_ignored c ≡ false
not_ignored c high =
    or_from _ _ (or_from _ _ (or_from _ _ (or_from _ _ (or_from _ _ (or_from _ _ (or_from _ _ (ne_eqb c 0x200B (λ e. omega arith)) (under 0x200E 0x200F c (omega arith)))
    (under 0x202A 0x202E c (omega arith))) (under 0x2060 0x206F c (omega arith))) (ne_eqb c 0x3164 (λ e. omega arith))) (ne_eqb c 0xFEFF (λ e. omega arith)))
    (ne_eqb c 0xFFA0 (λ e. omega arith))) (under 0xFFF0 0xFFFB c (omega arith))

not_above : (c : ℕ) → c < 127 → is_ignored_above c ≡ false
not_above c high = or_from _ _ (or_from _ _ (under 0x1BCA0 0x1BCA3 c (omega arith)) (under 0x1D173 0x1D17A c (omega arith))) (under 0xE0000 0xE0FFF c (omega arith))

printed : (c : ℕ) → 32 ≤ c → c < 127 → is_hidden c ≡ false
printed c low high =
    or_from (is_control c || is_ignored_below c || is_ignored c) (is_ignored_above c)
    (or_from (is_control c || is_ignored_below c) (is_ignored c) (or_from (is_control c) (is_ignored_below c) (no_control c low high) (not_below c high)) (not_ignored c high))
    (not_above c high)

digit_seen : (d : ℕ) → d < 16 → is_seen (digit d) ≡ true
digit_seen d small =
    cond_both (nat_lt d 10) (48 + d) (55 + d) (λ x. is_seen x ≡ true)
    (λ h. ap not (printed (48 + d) (omega arith) (let l = ltb-true d 10 h in omega arith)))
    (λ h. ap not (printed (55 + d) (omega arith) (omega arith)))

fifth_seen : (c : ℕ) → list_all is_seen (fifth c) ≡ true
fifth_seen c =
    cond_both (nat_lt c 65536) [] (digit (c / 65536 % 16) ∷ []) (λ xs. list_all is_seen xs ≡ true) (λ _. refl)
    (λ _. and_from (is_seen (digit (c / 65536 % 16))) true (digit_seen (c / 65536 % 16) (omega arith)) refl)

four_seen : (c : ℕ) → list_all is_seen (digit (c / 4096 % 16) ∷ digit (c / 256 % 16) ∷ digit (c / 16 % 16) ∷ digit (c % 16) ∷ codes "]") ≡ true
four_seen c =
    and_from (is_seen (digit (c / 4096 % 16))) _ (digit_seen (c / 4096 % 16) (omega arith))
    (and_from (is_seen (digit (c / 256 % 16))) _ (digit_seen (c / 256 % 16) (omega arith))
    (and_from (is_seen (digit (c / 16 % 16))) _ (digit_seen (c / 16 % 16) (omega arith))
    (and_from (is_seen (digit (c % 16))) _ (digit_seen (c % 16) (omega arith)) refl)))

number_seen : (c : ℕ) → list_all is_seen (numbered c) ≡ true
number_seen c =
    let digits : List ℕ = digit (c / 4096 % 16) ∷ digit (c / 256 % 16) ∷ digit (c / 16 % 16) ∷ digit (c % 16) ∷ codes "]" in
    list_all-append is_seen (fifth c) digits ∙ and_from (list_all is_seen (fifth c)) (list_all is_seen digits) (fifth_seen c) (four_seen c)

one_seen : (c : ℕ) → list_all is_seen (made_visible c) ≡ true
one_seen c = cond_both (is_hidden c) (numbered c) (c ∷ []) (λ xs. list_all is_seen xs ≡ true) (λ _. number_seen c) (λ h. ap (λ b. not b && true) h)

all_seen : (cs : List ℕ) → list_all is_seen (visible cs) ≡ true
all_seen [] = refl
all_seen (c ∷ cs) = list_all-append is_seen (made_visible c) (visible cs) ∙ and_from (list_all is_seen (made_visible c)) (list_all is_seen (visible cs)) (one_seen c) (all_seen cs)

all_same : (cs : List ℕ) → list_all is_seen cs ≡ true → visible cs ≡ cs
all_same [] h = refl
all_same (c ∷ cs) h =
    let both = and_parts (is_seen c) (list_all is_seen cs) h in
    ap (λ xs. xs ++ visible cs) (cond-false (is_hidden c) (numbered c) (c ∷ []) (not-true (is_hidden c) both.0)) ∙ ap (λ xs. c ∷ xs) (all_same cs both.1)

pub proved_texts_are_visible : TextsAreVisible
proved_texts_are_visible = record { seen = all_seen; same = all_same }
