-- Proves that escaped text contains no markup and is read back as the original text.
use Rattle.std.proofs.Common.{ℕ, ◌≡◌, ◌≢◌, true, List, [], ◌∷◌, ◌++◌, map, None, Some, refl, sym, ap, subst, ◌∙◌, inl, inr}
use Rattle.std.specs.Prelude.{codes}
use Rattle.std.specs.List.{list_all}
use Rattle.std.proofs.lemmas.Bool.{and_parts, and_from, cases_eq, cond-true, cond_both, ne_eqb}
use Rattle.std.proofs.lemmas.List.Folds.{list_all-append}
use Rattle.html.specs.Escaped.{escaped, is_character, shown, written}
use Rattle.html.specs.Grammar.{IsText, character, no_text, referred}
use Rattle.html.specs.MarkupLaws.{EscapesArePlain, EscapesAreReadBack, is_plain}
use Rattle.html.specs.Reading.{onto, read}

-- The character has no reference.
record IsOther (c : ℕ) : Type 0 where
  ampersand : c ≢ 38
  less : c ≢ 60
  greater : c ≢ 62
  quote : c ≢ 34
  apostrophe : c ≢ 39
  tab : c ≢ 9
  feed : c ≢ 10
  return : c ≢ 13

-- What holds for each character with a reference, and for all others, holds for all characters.
by_cases : (P : ℕ → Type 0) → P 38 → P 60 → P 62 → P 34 → P 39 → P 9 → P 10 → P 13 → ((c : ℕ) → IsOther c → P c) → (c : ℕ) → P c
by_cases P p38 p60 p62 p34 p39 p9 p10 p13 rest c =
    elim (cases_eq c 38) [
      | inl e ↦ subst P (sym e) p38
      | inr n38 ↦ elim (cases_eq c 60) [
        | inl e ↦ subst P (sym e) p60
        | inr n60 ↦ elim (cases_eq c 62) [
          | inl e ↦ subst P (sym e) p62
          | inr n62 ↦ elim (cases_eq c 34) [
            | inl e ↦ subst P (sym e) p34
            | inr n34 ↦ elim (cases_eq c 39) [
              | inl e ↦ subst P (sym e) p39
              | inr n39 ↦ elim (cases_eq c 9) [
                | inl e ↦ subst P (sym e) p9
                | inr n9 ↦ elim (cases_eq c 10) [
                  | inl e ↦ subst P (sym e) p10
                  | inr n10 ↦ elim (cases_eq c 13) [
                    | inl e ↦ subst P (sym e) p13
                    | inr n13 ↦ rest c (record { ampersand = n38; less = n60; greater = n62; quote = n34; apostrophe = n39; tab = n9; feed = n10; return = n13 })
                  ]
                ]
              ]
            ]
          ]
        ]
      ]
    ]

-- A character without a reference is written as itself, or as U+FFFD if XML forbids it.
written_other : (c : ℕ) → IsOther c → written c ≡ shown c ∷ []
written_other c o =
    rw (ne_eqb c 38 o.ampersand, ne_eqb c 60 o.less, ne_eqb c 62 o.greater, ne_eqb c 34 o.quote, ne_eqb c 39 o.apostrophe, ne_eqb c 9 o.tab, ne_eqb c 10 o.feed, ne_eqb c 13 o.return) refl

-- What holds for a character that XML allows, and for U+FFFD, holds for what is written.
of_shown : (P : ℕ → Type 0) (c : ℕ) → (is_character c ≡ true → P c) → P 0xFFFD → P (shown c)
of_shown P c itself replaced = cond_both (is_character c) c 0xFFFD P itself (λ _. replaced)

-- ---- reading

abbrev Reads : List ℕ → ℕ → Type 0
Reads rest c = read None (written c ++ rest) ≡ onto (Some (shown c)) (read None rest)

read_plain : (rest : List ℕ) (c : ℕ) → c ≢ 38 → c ≢ 60 → read None (c ∷ rest) ≡ onto (Some c) (read None rest)
read_plain rest c n38 n60 = rw (ne_eqb c 38 n38, ne_eqb c 60 n60) refl

reads_other : (rest : List ℕ) (c : ℕ) → IsOther c → Reads rest c
reads_other rest c o =
    ap (λ xs. read None (xs ++ rest)) (written_other c o)
    ∙ of_shown (λ x. read None (x ∷ rest) ≡ onto (Some x) (read None rest)) c (λ _. read_plain rest c o.ampersand o.less) refl

reads_one : (rest : List ℕ) (c : ℕ) → Reads rest c
reads_one rest c = by_cases (Reads rest) refl refl refl refl refl refl refl refl (reads_other rest) c

reads_back : (cs : List ℕ) → read None (escaped cs) ≡ Some (map shown cs)
reads_back [] = refl
reads_back (c ∷ cs) = reads_one (escaped cs) c ∙ ap (onto (Some (shown c))) (reads_back cs)

all_shown : (cs : List ℕ) → list_all is_character cs ≡ true → map shown cs ≡ cs
all_shown [] h = refl
all_shown (c ∷ cs) h =
    let both = and_parts (is_character c) (list_all is_character cs) h in
    ap (λ x. x ∷ map shown cs) (cond-true (is_character c) c 0xFFFD both.0) ∙ ap (λ xs. c ∷ xs) (all_shown cs both.1)

pub proved_escapes_are_read_back : EscapesAreReadBack
proved_escapes_are_read_back = record {
  shown = reads_back;
  same = λ cs h. reads_back cs ∙ ap Some (all_shown cs h);
}

-- ---- what escaped text contains

abbrev IsPlainly : ℕ → Type 0
IsPlainly c = list_all is_plain (written c) ≡ true

plain_itself : (c : ℕ) → IsOther c → is_character c ≡ true → is_plain c ≡ true
plain_itself c o h = rw (h, ne_eqb c 60 o.less, ne_eqb c 62 o.greater, ne_eqb c 34 o.quote, ne_eqb c 39 o.apostrophe) refl

plain_other : (c : ℕ) → IsOther c → IsPlainly c
plain_other c o =
    ap (list_all is_plain) (written_other c o)
    ∙ of_shown (λ x. list_all is_plain (x ∷ []) ≡ true) c (λ h. and_from (is_plain c) true (plain_itself c o h) refl) refl

plain_one : (c : ℕ) → IsPlainly c
plain_one c = by_cases IsPlainly refl refl refl refl refl refl refl refl plain_other c

all_plain : (cs : List ℕ) → list_all is_plain (escaped cs) ≡ true
all_plain [] = refl
all_plain (c ∷ cs) =
    list_all-append is_plain (written c) (escaped cs) ∙ and_from (list_all is_plain (written c)) (list_all is_plain (escaped cs)) (plain_one c) (all_plain cs)

abbrev GoesOn : List ℕ → ℕ → Type 0
GoesOn rest c = IsText (written c ++ rest)

text_other : (rest : List ℕ) → IsText rest → (c : ℕ) → IsOther c → GoesOn rest c
text_other rest r c o =
    subst (λ xs. IsText (xs ++ rest)) (sym (written_other c o))
    (of_shown (λ x. IsText (x ∷ rest)) c (λ h. character c rest h o.ampersand o.less o.greater o.quote r)
    (character 0xFFFD rest refl (λ e. cc) (λ e. cc) (λ e. cc) (λ e. cc) r))

text_one : (rest : List ℕ) → IsText rest → (c : ℕ) → GoesOn rest c
text_one rest r c =
    by_cases (GoesOn rest) (referred (codes "amp") rest refl r) (referred (codes "lt") rest refl r) (referred (codes "gt") rest refl r) (referred (codes "quot") rest refl r)
    (referred (codes "#39") rest refl r) (referred (codes "#9") rest refl r) (referred (codes "#10") rest refl r) (referred (codes "#13") rest refl r) (text_other rest r) c

pub escaped_text : (cs : List ℕ) → IsText (escaped cs)
escaped_text [] = no_text
escaped_text (c ∷ cs) = text_one (escaped cs) (escaped_text cs) c

pub proved_escapes_are_plain : EscapesArePlain
proved_escapes_are_plain = record { plain = all_plain; text = escaped_text }
