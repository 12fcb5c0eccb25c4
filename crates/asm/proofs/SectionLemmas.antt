-- A section of the table outside of which no mnemonic begins as a word does.
use Rattle.std.proofs.Common.{◌≡◌, ℕ, ◌<◌, Bool, true, false, cond, List, [], ◌∷◌, ◌++◌, Option, Some, length, get_or, take, drop, take-append-drop, nat_eq, refl, ap, sym, subst, ◌∙◌, arith}
use Rattle.std.specs.Prelude.{not, ◌&&◌, ◌||◌}
use Rattle.std.specs.Str.{bytes_eq}
use Rattle.std.proofs.lemmas.Bool.{and_parts}
use Rattle.asm.specs.declared.mnemonic.Mnemonic.{Mnemonic}
use Rattle.asm.specs.Table.{name_of, mnemonics, first_named, mnemonic_of}

-- The text does not begin with these letters.
abbrev pub begins_otherwise : List ℕ → List ℕ → Bool
begins_otherwise [] name = false
begins_otherwise (c ∷ cs) [] = true
begins_otherwise (c ∷ cs) (a ∷ more) = not (nat_eq a c) || begins_otherwise cs more

abbrev pub all_otherwise : List ℕ → List Mnemonic → Bool
all_otherwise p [] = true
all_otherwise p (m ∷ ms) = begins_otherwise p (name_of m) && all_otherwise p ms

differs_on : (b x y : Bool) → (x ≡ true → y ≡ false) → not b || x ≡ true → b && y ≡ false
differs_on true x y rest h = rest h
differs_on false x y rest h = refl

differs : (name p rest : List ℕ) → begins_otherwise p name ≡ true → bytes_eq name (p ++ rest) ≡ false
differs name [] rest h = absurd cc
differs [] (c ∷ cs) rest h = refl
differs (a ∷ more) (c ∷ cs) rest h = differs_on (nat_eq a c) (begins_otherwise cs more) (bytes_eq more (cs ++ rest)) (differs more cs rest) h

passed : (b : Bool) (m : Mnemonic) (found : Option Mnemonic) → b ≡ false → cond b (Some m) found ≡ found
passed b m found h = ap (λ t. cond t (Some m) found) h

-- The mnemonics before the section are skipped.
behind : (p rest : List ℕ) (before ms : List Mnemonic) → all_otherwise p before ≡ true → first_named (p ++ rest) (before ++ ms) ≡ first_named (p ++ rest) ms
behind p rest [] ms h = refl
behind p rest (m ∷ more) ms h =
    passed (bytes_eq (name_of m) (p ++ rest)) m _ (differs (name_of m) p rest (and_parts (begins_otherwise p (name_of m)) _ h).0) ∙ behind p rest more ms (and_parts (begins_otherwise p (name_of m)) _ h).1

-- None of those after it is found.
within : (p rest : List ℕ) (ms after : List Mnemonic) → all_otherwise p after ≡ true → first_named (p ++ rest) (ms ++ after) ≡ first_named (p ++ rest) ms
within p rest [] [] h = refl
within p rest [] (m ∷ more) h =
    passed (bytes_eq (name_of m) (p ++ rest)) m _ (differs (name_of m) p rest (and_parts (begins_otherwise p (name_of m)) _ h).0) ∙ within p rest [] more (and_parts (begins_otherwise p (name_of m)) _ h).1
within p rest (m ∷ ms) after h = ap (cond (bytes_eq (name_of m) (p ++ rest)) (Some m)) (within p rest ms after h)

-- The section of n mnemonics from index i on.
part : (p rest : List ℕ) (i n : ℕ) (all : List Mnemonic) → all_otherwise p (take i all) ≡ true → all_otherwise p (drop n (drop i all)) ≡ true
    → first_named (p ++ rest) (take n (drop i all)) ≡ first_named (p ++ rest) all
part p rest i n all before after =
    let whole : take n (drop i all) ++ drop n (drop i all) ≡ drop i all = take-append-drop n (drop i all) in
    let all_of : take i all ++ drop i all ≡ all = take-append-drop i all in
    sym (within p rest (take n (drop i all)) (drop n (drop i all)) after) ∙ ap (first_named (p ++ rest)) whole ∙ sym (behind p rest (take i all) (drop i all) before) ∙ ap (first_named (p ++ rest)) all_of

two_letters : (c d : ℕ) (word : List ℕ) → 1 < length word → get_or word 0 0 ≡ c → get_or word 1 0 ≡ d → word ≡ (c ∷ d ∷ []) ++ drop 2 word
two_letters c d [] some is next = absurd (omega (arith, some))
two_letters c d (x ∷ []) some is next = absurd (omega (arith, some))
two_letters c d (x ∷ y ∷ rest) some is next = cc (is, next)

at : (p rest word : List ℕ) (ms : List Mnemonic) → word ≡ p ++ rest → first_named (p ++ rest) ms ≡ mnemonic_of (p ++ rest) → first_named word ms ≡ mnemonic_of word
at p rest word ms e h = subst (λ w. first_named w ms ≡ mnemonic_of w) (sym e) h

pub by_letter : (c i n letter : ℕ) (rest : List ℕ) → letter ≡ c
    → all_otherwise (c ∷ []) (take i mnemonics) ≡ true → all_otherwise (c ∷ []) (drop n (drop i mnemonics)) ≡ true
    → first_named (letter ∷ rest) (take n (drop i mnemonics)) ≡ mnemonic_of (letter ∷ rest)
unfolding mnemonic_of
by_letter c i n letter rest is before after = at (c ∷ []) rest (letter ∷ rest) _ (ap (λ y. y ∷ rest) is) (part (c ∷ []) rest i n mnemonics before after)

pub by_letters : (c d i n : ℕ) (word : List ℕ) → 1 < length word → get_or word 0 0 ≡ c → get_or word 1 0 ≡ d
    → all_otherwise (c ∷ d ∷ []) (take i mnemonics) ≡ true → all_otherwise (c ∷ d ∷ []) (drop n (drop i mnemonics)) ≡ true
    → first_named word (take n (drop i mnemonics)) ≡ mnemonic_of word
unfolding mnemonic_of
by_letters c d i n word some is next before after = at (c ∷ d ∷ []) (drop 2 word) word _ (two_letters c d word some is next) (part (c ∷ d ∷ []) (drop 2 word) i n mnemonics before after)
