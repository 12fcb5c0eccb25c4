-- Proves the law about displayed texts: which characters they contain, and which texts are displayed unchanged.
use Rattle.std.proofs.Common.{ℕ, ◌+◌, ◌/◌, ◌%◌, ◌<◌, ◌≤◌, ◌≡◌, Bool, true, false, not, ◌&&◌, ◌||◌, List, [], ◌∷◌, ◌++◌, refl, ap, sym, ◌∙◌, arith, codes}
use Rattle.std.specs.Prelude.{nat_lt}
use Rattle.std.specs.Char.{digit_char, is_control}
use Rattle.std.specs.List.{flat_map, list_all, list_any}
use Rattle.std.specs.Str.{IsUtf8, chars, encode_utf8_all}
use Rattle.std.proofs.Math.Utf8.{scalar, scalars}
use Rattle.std.proofs.lemmas.Bool.{and_from, and_parts, cond-false, cond-true, cond_both, lt-ltb}
use Rattle.std.proofs.lemmas.List.{flat_map_more}
use Rattle.std.proofs.lemmas.List.Concat.{flat_map-append}
use Rattle.std.proofs.lemmas.List.Folds.{list_all-append}
use Rattle.std.proofs.lemmas.Str.{chars-encodes, encodes-append, encodes-chars, scalars-chars}
use Rattle.streams.specs.declared.escaped.Kept.{Kept}
use Rattle.streams.specs.Escapes.{displayed, escape, escaped, is_escaped, is_kept}
use Rattle.streams.specs.Laws.{EscapedTextsArePlain}
use Rattle.streams.specs.Names.{has_control}

-- Displaying one more character appends its displayed form.
pub one_more : (kept : Kept) (cs : List ℕ) (c : ℕ)
    → encode_utf8_all (flat_map (displayed kept) cs) ++ encode_utf8_all (displayed kept c) ≡ encode_utf8_all (flat_map (displayed kept) (cs ++ c ∷ []))
one_more kept cs c =
    sym (encodes-append (flat_map (displayed kept) cs) (displayed kept c))
    ∙ ap encode_utf8_all (flat_map_more (displayed kept) [] cs c)

-- ---- texts without control characters

or_none : (a b : Bool) → (a || b) ≡ false → (a ≡ false) × (b ≡ false)
or_none true b h = absurd cc
or_none false b h = (refl, h)

flat_same : (kept : Kept) (cs : List ℕ) → list_any is_control cs ≡ false → flat_map (displayed kept) cs ≡ cs
flat_same kept [] h = refl
flat_same kept (c ∷ cs) h =
    let both = or_none (is_control c) (list_any is_control cs) h in
    ap (λ xs. xs ++ flat_map (displayed kept) cs) (cond-false (is_escaped kept c) (escape c) (c ∷ []) (ap (λ b. b && not (is_kept kept c)) both.0))
    ∙ ap (λ xs. c ∷ xs) (flat_same kept cs both.1)

pub clean_same : (kept : Kept) (text : List ℕ) → IsUtf8 text → has_control text ≡ false → escaped kept text ≡ text
unfolding escaped has_control
clean_same kept text utf8 h = ap encode_utf8_all (flat_same kept (chars text) h) ∙ encodes-chars text utf8

-- ---- the characters of a text as it is displayed

scalar_small : (c : ℕ) → c < 55296 → scalar c ≡ true
scalar_small c h = cond-true (nat_lt c 55296) true _ (lt-ltb c 55296 h)

scalars_append : (xs ys : List ℕ) → scalars xs ≡ true → scalars ys ≡ true → scalars (xs ++ ys) ≡ true
scalars_append [] ys h k = k
scalars_append (x ∷ xs) ys h k =
    let both = and_parts (scalar x) (scalars xs) h in and_from (scalar x) (scalars (xs ++ ys)) both.0 (scalars_append xs ys both.1 k)

digit_bounds : (d : ℕ) → d < 16 → (48 ≤ digit_char d) × (digit_char d < 103)
digit_bounds d h = grind arith

control_bound : (c : ℕ) → is_control c ≡ true → c < 160
control_bound c h = grind arith

printed : (kept : Kept) (c : ℕ) → 32 ≤ c → c < 127 → not (is_escaped kept c) ≡ true
printed kept c low high = let none : is_control c ≡ false = grind arith in ap (λ b. not (b && not (is_kept kept c))) none

escape_scalars : (c : ℕ) → c < 160 → scalars (escape c) ≡ true
escape_scalars c h =
    let first = digit_bounds (c / 16) (omega arith) in
    let last = digit_bounds (c % 16) (omega arith) in
    and_from (scalar (digit_char (c / 16))) _ (scalar_small (digit_char (c / 16)) (omega arith))
    (and_from (scalar (digit_char (c % 16))) true (scalar_small (digit_char (c % 16)) (omega arith)) refl)

escape_plain : (kept : Kept) (c : ℕ) → c < 160 → list_all (λ x. not (is_escaped kept x)) (escape c) ≡ true
escape_plain kept c h =
    let first = digit_bounds (c / 16) (omega arith) in
    let last = digit_bounds (c % 16) (omega arith) in
    and_from (not (is_escaped kept (digit_char (c / 16)))) _ (printed kept (digit_char (c / 16)) (omega arith) (omega arith))
    (and_from (not (is_escaped kept (digit_char (c % 16)))) true (printed kept (digit_char (c % 16)) (omega arith) (omega arith)) refl)

escaped_bound : (kept : Kept) (c : ℕ) → is_escaped kept c ≡ true → c < 160
escaped_bound kept c h = control_bound c (and_parts (is_control c) (not (is_kept kept c)) h).0

one_scalars : (kept : Kept) (c : ℕ) → scalar c ≡ true → scalars (displayed kept c) ≡ true
one_scalars kept c own =
    cond_both (is_escaped kept c) (escape c) (c ∷ []) (λ xs. scalars xs ≡ true)
    (λ h. escape_scalars c (escaped_bound kept c h)) (λ _. and_from (scalar c) true own refl)

one_plain : (kept : Kept) (c : ℕ) → list_all (λ x. not (is_escaped kept x)) (displayed kept c) ≡ true
one_plain kept c =
    cond_both (is_escaped kept c) (escape c) (c ∷ []) (λ xs. list_all (λ x. not (is_escaped kept x)) xs ≡ true)
    (λ h. escape_plain kept c (escaped_bound kept c h)) (λ h. ap (λ b. not b && true) h)

all_scalars : (kept : Kept) (cs : List ℕ) → scalars cs ≡ true → scalars (flat_map (displayed kept) cs) ≡ true
all_scalars kept [] h = refl
all_scalars kept (c ∷ cs) h =
    let both = and_parts (scalar c) (scalars cs) h in
    scalars_append (displayed kept c) (flat_map (displayed kept) cs) (one_scalars kept c both.0) (all_scalars kept cs both.1)

all_plain : (kept : Kept) (cs : List ℕ) → list_all (λ x. not (is_escaped kept x)) (flat_map (displayed kept) cs) ≡ true
all_plain kept [] = refl
all_plain kept (c ∷ cs) =
    list_all-append (λ x. not (is_escaped kept x)) (displayed kept c) (flat_map (displayed kept) cs)
    ∙ and_from (list_all (λ x. not (is_escaped kept x)) (displayed kept c)) _ (one_plain kept c) (all_plain kept cs)

plain_text : (kept : Kept) (text : List ℕ) → IsUtf8 text → list_all (λ x. not (is_escaped kept x)) (chars (escaped kept text)) ≡ true
unfolding escaped
plain_text kept text utf8 =
    ap (list_all (λ x. not (is_escaped kept x)))
    (chars-encodes (flat_map (displayed kept) (chars text)) (all_scalars kept (chars text) (scalars-chars text utf8)))
    ∙ all_plain kept (chars text)

pub proved_escaped_texts_are_plain : EscapedTextsArePlain
proved_escaped_texts_are_plain = record { plain = plain_text; same = clean_same }
