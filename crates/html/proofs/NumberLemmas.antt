-- Lemmas about writing the number of a character, such as `[U+200B]`.
use Rattle.std.proofs.Common.{ℕ, ◌≡◌, List, [], ◌∷◌, ◌++◌, sym, ap, ◌∙◌, append_assoc, append-nil, codes, encode_utf8_all}
use Rattle.std.proofs.lemmas.Grind.{flat_map-append}
use Rattle.std.proofs.lemmas.Str.{encodes-append}
use Rattle.std.proofs.Math.Utf8.{encode}
use Rattle.html.specs.Escaped.{escaped, written}

abbrev E : List ℕ → List ℕ
E cs = encode_utf8_all cs

-- A text of one character is escaped as this character.
pub one_written : (c : ℕ) → E (escaped (c ∷ [])) ≡ E (written c)
one_written c = ap encode_utf8_all (append-nil (written c))

four_so : (a b c d : ℕ) → E (escaped (a ∷ b ∷ c ∷ d ∷ codes "]")) ≡ E (written a) ++ (E (written b) ++ (E (written c) ++ (E (written d) ++ codes "]")))
unfolding encode
four_so a b c d =
    encodes-append (written a) (written b ++ (written c ++ (written d ++ codes "]")))
    ∙ ap (λ (xs : List ℕ). E (written a) ++ xs)
    (encodes-append (written b) (written c ++ (written d ++ codes "]"))
    ∙ ap (λ (xs : List ℕ). E (written b) ++ xs)
    (encodes-append (written c) (written d ++ codes "]") ∙ ap (λ (xs : List ℕ). E (written c) ++ xs) (encodes-append (written d) (codes "]"))))

begun_so : (cs : List ℕ) → E (escaped (codes "[U+" ++ cs)) ≡ codes "[U+" ++ E (escaped cs)
unfolding encode
begun_so cs = encodes-append (codes "[U+") (escaped cs)

shown_so : (lead : List ℕ) (a b c d : ℕ)
    → E (escaped (codes "[U+" ++ (lead ++ (a ∷ b ∷ c ∷ d ∷ codes "]")))) ≡ codes "[U+" ++ (E (escaped lead) ++ (E (written a) ++ (E (written b) ++ (E (written c) ++ (E (written d) ++ codes "]")))))
shown_so lead a b c d =
    let rest : List ℕ = a ∷ b ∷ c ∷ d ∷ codes "]" in
    begun_so (lead ++ rest)
    ∙ ap (λ (xs : List ℕ). codes "[U+" ++ xs)
    (ap encode_utf8_all (flat_map-append written lead rest)
    ∙ (encodes-append (escaped lead) (escaped rest) ∙ ap (λ (xs : List ℕ). E (escaped lead) ++ xs) (four_so a b c d)))

regrouped : (old p l a b c d q : List ℕ) → ((((((old ++ p) ++ l) ++ a) ++ b) ++ c) ++ d) ++ q ≡ old ++ (p ++ (l ++ (a ++ (b ++ (c ++ (d ++ q))))))
regrouped old p l a b c d q = simp append_assoc

-- The number is written piece by piece.
pub number_written : (old first zeroth one two three four new lead : List ℕ) (a b c d : ℕ) → first ≡ old ++ codes "[U+" → zeroth ≡ first ++ E (escaped lead) → one ≡ zeroth ++ E (written a)
    → two ≡ one ++ E (written b) → three ≡ two ++ E (written c) → four ≡ three ++ E (written d) → new ≡ four ++ codes "]"
    → new ≡ old ++ E (escaped (codes "[U+" ++ (lead ++ (a ∷ b ∷ c ∷ d ∷ codes "]"))))
number_written old first zeroth one two three four new lead a b c d e0 e e1 e2 e3 e4 e5 =
    e5 ∙ (ap (λ (xs : List ℕ). xs ++ codes "]") (e4 ∙ ap (λ (xs : List ℕ). xs ++ E (written d)) (e3 ∙ ap (λ (xs : List ℕ). xs ++ E (written c)) (e2 ∙ ap (λ (xs : List ℕ). xs ++ E (written b))
    (e1 ∙ ap (λ (xs : List ℕ). xs ++ E (written a)) (e ∙ ap (λ (xs : List ℕ). xs ++ E (escaped lead)) e0)))))
    ∙ (regrouped old (codes "[U+") (E (escaped lead)) (E (written a)) (E (written b)) (E (written c)) (E (written d)) (codes "]") ∙ ap (λ (xs : List ℕ). old ++ xs) (sym (shown_so lead a b c d))))
