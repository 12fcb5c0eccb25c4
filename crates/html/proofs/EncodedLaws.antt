-- Proves that the UTF-8 bytes of an escaped text are text without tags, byte by byte.
use Rattle.std.proofs.Common.{ℕ, ◌+◌, ◌/◌, ◌<◌, ◌≤◌, ◌≡◌, ◌≢◌, Bool, true, false, ◌&&◌, ◌||◌, List, [], ◌∷◌, ◌++◌, refl, sym, ◌∙◌, subst, inl, inr, arith, codes, encode_utf8, encode_utf8_all, chars, append-nil}
use Rattle.std.specs.Prelude.{◌==◌, nat_le}
use Rattle.std.proofs.lemmas.Bool.{cases_lt, cases_eq, le-leb, le-ltb, lt-leb, lt-ltb, ne_eqb, or_from, or_left, or_right, and_from, cond_both, true≢false}
use Rattle.std.proofs.lemmas.Str.{encodes-append, encode_ascii}
use Rattle.std.proofs.Math.Utf8.{encode, next}
use Rattle.html.specs.Escaped.{escaped, is_character, is_within, shown, written}
use Rattle.html.specs.Grammar.{IsText, character, no_text, referred}
use Rattle.html.specs.Page.{shown as shown_bytes}
use Rattle.html.specs.Visible.{visible}

-- The UTF-8 bytes of a character that is not ASCII.
two : (c : ℕ) → 128 ≤ c → c < 2048 → encode c ≡ (192 + c / 64) ∷ next c ∷ []
unfolding encode
two c l h = rw (le-ltb c 128 l, lt-ltb c 2048 h) refl

three : (c : ℕ) → 2048 ≤ c → c < 65536 → encode c ≡ (224 + c / 4096) ∷ next (c / 64) ∷ next c ∷ []
unfolding encode
three c l h = rw (le-ltb c 128 (omega arith), le-ltb c 2048 l, lt-ltb c 65536 h) refl

four : (c : ℕ) → 65536 ≤ c → encode c ≡ (240 + c / 262144) ∷ next (c / 4096) ∷ next (c / 64) ∷ next c ∷ []
unfolding encode
four c l = rw (le-ltb c 128 (omega arith), le-ltb c 2048 (omega arith), le-ltb c 65536 l) refl

-- A byte of 128 or more is a character that XML allows.
high_is : (b : ℕ) → 128 ≤ b → b < 256 → is_character b ≡ true
high_is b low high =
    or_left (b == 9 || b == 10 || b == 13 || is_within 0x20 0xD7FF b || is_within 0xE000 0xFFFD b) (is_within 0x10000 0x10FFFF b)
    (or_left (b == 9 || b == 10 || b == 13 || is_within 0x20 0xD7FF b) (is_within 0xE000 0xFFFD b)
    (or_right (b == 9 || b == 10 || b == 13) (is_within 0x20 0xD7FF b) (and_from _ _ (le-leb 0x20 b (omega arith)) (le-leb b 0xD7FF (omega arith)))))

high : (b : ℕ) (rest : List ℕ) → 128 ≤ b → b < 256 → IsText rest → IsText (b ∷ rest)
high b rest low top t = character b rest (high_is b low top) (λ e. omega arith) (λ e. omega arith) (λ e. omega arith) (λ e. omega arith) t

off : (x y : Bool) → y ≡ false → (x && y) ≡ false
off true y h = h
off false y h = refl

-- A number greater than U+10FFFF is not a character that XML allows.
beyond : (c : ℕ) → 1114112 ≤ c → is_character c ≡ false
beyond c far =
    or_from (c == 9 || c == 10 || c == 13 || is_within 0x20 0xD7FF c || is_within 0xE000 0xFFFD c) (is_within 0x10000 0x10FFFF c)
    (or_from (c == 9 || c == 10 || c == 13 || is_within 0x20 0xD7FF c) (is_within 0xE000 0xFFFD c)
    (or_from (c == 9 || c == 10 || c == 13) (is_within 0x20 0xD7FF c)
    (or_from (c == 9 || c == 10) (c == 13) (or_from (c == 9) (c == 10) (ne_eqb c 9 (λ e. omega arith)) (ne_eqb c 10 (λ e. omega arith))) (ne_eqb c 13 (λ e. omega arith)))
    (off (nat_le 0x20 c) (nat_le c 0xD7FF) (lt-leb c 0xD7FF (omega arith))))
    (off (nat_le 0xE000 c) (nat_le c 0xFFFD) (lt-leb c 0xFFFD (omega arith))))
    (off (nat_le 0x10000 c) (nat_le c 0x10FFFF) (lt-leb c 0x10FFFF (omega arith)))

below : (c : ℕ) → is_character c ≡ true → c < 1114112
below c h = elim (cases_lt c 1114112) [
  | inl less ↦ less
  | inr far ↦ absurd (true≢false (sym h ∙ beyond c far))
]

-- The bytes of a character that is not ASCII are text.
wide : (c : ℕ) (rest : List ℕ) → 128 ≤ c → c < 1114112 → IsText rest → IsText (encode_utf8 c ++ rest)
wide c rest low top t = elim (cases_lt c 2048) [
  | inl less ↦ subst (λ bs. IsText (bs ++ rest)) (sym (two c low less)) (high _ _ (omega arith) (omega arith) (high _ _ (omega arith) (omega arith) t))
  | inr more ↦ elim (cases_lt c 65536) [
    | inl less ↦ subst (λ bs. IsText (bs ++ rest)) (sym (three c more less)) (high _ _ (omega arith) (omega arith) (high _ _ (omega arith) (omega arith) (high _ _ (omega arith) (omega arith) t)))
    | inr much ↦ subst (λ bs. IsText (bs ++ rest)) (sym (four c much))
        (high _ _ (omega arith) (omega arith) (high _ _ (omega arith) (omega arith) (high _ _ (omega arith) (omega arith) (high _ _ (omega arith) (omega arith) t))))
  ]
]

-- The bytes of any character that is not markup are text.
plain : (c : ℕ) (rest : List ℕ) → is_character c ≡ true → c ≢ 38 → c ≢ 60 → c ≢ 62 → c ≢ 34 → IsText rest → IsText (encode_utf8 c ++ rest)
plain c rest is n38 n60 n62 n34 t = elim (cases_lt c 128) [
  | inl less ↦ subst (λ bs. IsText (bs ++ rest)) (sym (encode_ascii c less)) (character c rest is n38 n60 n62 n34 t)
  | inr more ↦ wide c rest more (below c is) t
]

abbrev GoesOn : List ℕ → ℕ → Type 0
GoesOn rest c = IsText (encode_utf8_all (written c) ++ rest)

-- The bytes of a character that has no reference are text.
other : (rest : List ℕ) → IsText rest → (c : ℕ) → written c ≡ shown c ∷ [] → c ≢ 38 → c ≢ 60 → c ≢ 62 → c ≢ 34 → GoesOn rest c
unfolding encode
other rest t c is n38 n60 n62 n34 =
    subst (λ (cs : List ℕ). IsText (encode_utf8_all cs ++ rest)) (sym is)
    (cond_both (is_character c) c 0xFFFD (λ x. IsText (encode_utf8_all (x ∷ []) ++ rest))
    (λ h. subst (λ (bs : List ℕ). IsText (bs ++ rest)) (sym (append-nil (encode_utf8 c))) (plain c rest h n38 n60 n62 n34 t))
    (λ _. high 239 _ (omega arith) (omega arith) (high 191 _ (omega arith) (omega arith) (high 189 rest (omega arith) (omega arith) t))))

goes_on : (rest : List ℕ) → IsText rest → (c : ℕ) → GoesOn rest c
unfolding encode
goes_on rest t c =
    elim (cases_eq c 38) [
      | inl e ↦ subst (GoesOn rest) (sym e) (referred (codes "amp") rest refl t)
      | inr n38 ↦
          elim (cases_eq c 60) [
            | inl e ↦ subst (GoesOn rest) (sym e) (referred (codes "lt") rest refl t)
            | inr n60 ↦
                elim (cases_eq c 62) [
                  | inl e ↦ subst (GoesOn rest) (sym e) (referred (codes "gt") rest refl t)
                  | inr n62 ↦
                      elim (cases_eq c 34) [
                        | inl e ↦ subst (GoesOn rest) (sym e) (referred (codes "quot") rest refl t)
                        | inr n34 ↦
                            elim (cases_eq c 39) [
                              | inl e ↦ subst (GoesOn rest) (sym e) (referred (codes "#39") rest refl t)
                              | inr n39 ↦
                                  elim (cases_eq c 9) [
                                    | inl e ↦ subst (GoesOn rest) (sym e) (referred (codes "#9") rest refl t)
                                    | inr n9 ↦
                                        elim (cases_eq c 10) [
                                          | inl e ↦ subst (GoesOn rest) (sym e) (referred (codes "#10") rest refl t)
                                          | inr n10 ↦
                                              elim (cases_eq c 13) [
                                                | inl e ↦ subst (GoesOn rest) (sym e) (referred (codes "#13") rest refl t)
                                                | inr n13 ↦
                                                    other rest t c (rw (ne_eqb c 38 n38, ne_eqb c 60 n60, ne_eqb c 62 n62, ne_eqb c 34 n34, ne_eqb c 39 n39, ne_eqb c 9 n9, ne_eqb c 10 n10, ne_eqb c 13 n13) refl) n38 n60 n62 n34
                                              ]
                                        ]
                                  ]
                            ]
                      ]
                ]
          ]
    ]

pub encoded_text : (cs : List ℕ) → IsText (encode_utf8_all (escaped cs))
encoded_text [] = no_text
encoded_text (c ∷ cs) = subst IsText (sym (encodes-append (written c) (escaped cs))) (goes_on (encode_utf8_all (escaped cs)) (encoded_text cs) c)

pub shown_text : (text : List ℕ) → IsText (shown_bytes text)
shown_text text = encoded_text (visible (chars text))
