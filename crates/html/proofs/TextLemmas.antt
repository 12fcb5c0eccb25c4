-- Lemmas about joining texts without markup.
use Rattle.std.proofs.Common.{ℕ, zero, suc, ◌+◌, ◌/◌, ◌%◌, ◌<◌, ◌≤◌, ◌≡◌, ◌≢◌, Bool, true, false, not, ◌&&◌, ◌||◌, cond, List, [], ◌∷◌, ◌++◌, sym, ap, subst, append_assoc, arith}
use Rattle.std.specs.Prelude.{◌==◌}
use Rattle.std.specs.Fmt.{decimal, digits, digit_glyph, digits_onto}
use Rattle.std.specs.List.{flat_map, list_all}
use Rattle.std.proofs.lemmas.Bool.{and_parts, and_from, cond_both, eqb-false, le-leb, lt-ltb, not-true, or_left, or_right}
use Rattle.html.specs.Escaped.{is_character, is_within}
use Rattle.html.specs.Grammar.{IsText, character, no_text, referred}
use Rattle.html.specs.MarkupLaws.{is_plain}

-- A text without tags, followed by another one, is a text without tags.
pub text-append : {a : List ℕ} (b : List ℕ) → IsText a → IsText b → IsText (a ++ b)
text-append b no_text t = t
text-append b (character c rest h n38 n60 n62 n34 r) t = character c (rest ++ b) h n38 n60 n62 n34 (text-append b r t)
text-append b (referred name rest s r) t = subst IsText (ap (λ x. 38 ∷ x) (sym (append_assoc name (59 ∷ rest) b))) (referred name (rest ++ b) s (text-append b r t))

pub text-flat_map : {A : Type 0} (f : A → List ℕ) (xs : List A) → ((x : A) → IsText (f x)) → IsText (flat_map f xs)
text-flat_map f [] h = no_text
text-flat_map f (x ∷ xs) h = text-append (flat_map f xs) (h x) (text-flat_map f xs h)

-- The character is plain and not an ampersand.
abbrev pub is_bare : ℕ → Bool
is_bare c = is_plain c && not (c == 38)

apart : (c d : ℕ) → not (c == d) ≡ true → c ≢ d
apart c d h = eqb-false c d (not-true (c == d) h)

-- A text of such characters is text without tags. For a given text the test is computed.
pub bare_text : (cs : List ℕ) → list_all is_bare cs ≡ true → IsText cs
bare_text [] h = no_text
bare_text (c ∷ cs) h =
    let all = and_parts (is_bare c) (list_all is_bare cs) h in
    let bare = and_parts (is_plain c) (not (c == 38)) all.0 in
    let four = and_parts (is_character c && not (c == 60) && not (c == 62) && not (c == 34)) (not (c == 39)) bare.0 in
    let three = and_parts (is_character c && not (c == 60) && not (c == 62)) (not (c == 34)) four.0 in
    let two = and_parts (is_character c && not (c == 60)) (not (c == 62)) three.0 in
    let one = and_parts (is_character c) (not (c == 60)) two.0 in
    character c cs one.0 (apart c 38 bare.1) (apart c 60 one.1) (apart c 62 two.1) (apart c 34 three.1) (bare_text cs all.1)

-- ---- numbers

printable : (c : ℕ) → 32 ≤ c → c ≤ 126 → is_character c ≡ true
printable c low high =
    or_left (c == 9 || c == 10 || c == 13 || is_within 0x20 0xD7FF c || is_within 0xE000 0xFFFD c) (is_within 0x10000 0x10FFFF c)
    (or_left (c == 9 || c == 10 || c == 13 || is_within 0x20 0xD7FF c) (is_within 0xE000 0xFFFD c)
    (or_right (c == 9 || c == 10 || c == 13) (is_within 0x20 0xD7FF c) (and_from _ _ (le-leb 0x20 c low) (le-leb c 0xD7FF (omega arith)))))

digit_text : (d : ℕ) (acc : List ℕ) → d < 10 → IsText acc → IsText (digit_glyph false d ∷ acc)
digit_text d acc l t =
    subst (λ c. IsText (c ∷ acc)) (sym (ap (λ b. cond b (48 + d) (87 + d)) (lt-ltb d 10 l)))
    (character (48 + d) acc (printable (48 + d) (omega arith) (omega arith)) (λ e. omega arith) (λ e. omega arith) (λ e. omega arith) (λ e. omega arith) t)

onto_text : (k n : ℕ) (acc : List ℕ) → IsText acc → IsText (digits_onto k 10 false n acc)
onto_text zero n acc t = t
onto_text (suc k) n acc t =
    let here : IsText (digit_glyph false (n % 10) ∷ acc) = digit_text (n % 10) acc (omega arith) t in
    cond_both (n / 10 == 0) (digit_glyph false (n % 10) ∷ acc) (digits_onto k 10 false (n / 10) (digit_glyph false (n % 10) ∷ acc)) IsText (λ _. here) (λ _. onto_text k (n / 10) (digit_glyph false (n % 10) ∷ acc) here)

-- A decimal number is text without tags.
pub decimal_text : (n : ℕ) → IsText (decimal n)
unfolding digits
decimal_text n = onto_text 64 n [] no_text
