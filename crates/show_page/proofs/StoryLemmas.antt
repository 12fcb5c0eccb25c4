-- A story ends between two characters.
use Rattle.std.proofs.Common.{ℕ, zero, suc, ◌+◌, ◌-◌, ◌<◌, ◌≤◌, ◌≡◌, Bool, true, false, not, ◌&&◌, ◌||◌, List, [], ◌∷◌, length, take, get_or, refl, sym, subst, ap, ◌∙◌, arith, inl, inr, ◌⊎◌}
use Rattle.std.specs.Prelude.{◌==◌}
use Rattle.std.specs.Str.{IsCharBoundary, IsUtf8}
use Rattle.std.proofs.lemmas.Bool.{cases_Bool, cond_both, cond-false, cond-true, eqb-true, or_cases, or_parts, true≢false}
use Rattle.std.proofs.lemmas.Str.{IsCharBoundary-after_ascii, IsCharBoundary-end, IsCharBoundary-start}
use Rattle.label.specs.Labels.{on}
use Rattle.show_page.specs.Story.{bytes_on, head_bytes, is_blank, story_bytes}

-- n bytes end at the end of the text, at its start, or after a character of one byte.
Ends : Bool → List ℕ → ℕ → Type 0
Ends within cs n = (n ≡ length cs) ⊎ (((n ≡ 0) × (within ≡ false)) ⊎ ((0 < n) × (get_or cs (n - 1) 0 < 128)))

blank_low : (c : ℕ) → is_blank c ≡ true → c < 128
blank_low c e = elim (or_cases (c == 32) (c == 9 || (c == 13 || c == 10)) e) [
  | inl first ↦ (let s = eqb-true c 32 first in omega arith)
  | inr rest ↦ elim (or_cases (c == 9) (c == 13 || c == 10) rest) [
    | inl second ↦ (let s = eqb-true c 9 second in omega arith)
    | inr last ↦ elim (or_cases (c == 13) (c == 10) last) [
      | inl third ↦ (let s = eqb-true c 13 third in omega arith)
      | inr fourth ↦ (let s = eqb-true c 10 fourth in omega arith)
    ]
  ]
]

-- A byte that ends a comment or is outside of one is a character of one byte.
last_low : (within : Bool) (c : ℕ) → (within || (is_blank c || c == 35)) ≡ true → (not (c == 10) && (within || c == 35)) ≡ false → c < 128
last_low within c goes ends = elim (cases_Bool (c == 10)) [
  | inl feed ↦ (let s = eqb-true c 10 feed in omega arith)
  | inr other ↦
      (let none : (within || c == 35) ≡ false = ap (λ b. not b && (within || c == 35)) (sym other) ∙ ends in
      let parts = or_parts within (c == 35) none in
      elim (or_cases within (is_blank c || c == 35) goes) [
        | inl in_one ↦ absurd (true≢false (sym in_one ∙ parts.0))
        | inr blank ↦ elim (or_cases (is_blank c) (c == 35) blank) [
          | inl is ↦ blank_low c is
          | inr sign ↦ absurd (true≢false (sym sign ∙ parts.1))
        ]
      ])
]

ends_on : (within : Bool) (cs : List ℕ) → Ends within cs (bytes_on within cs)
unfolding Ends
ends_on within [] = inl refl
ends_on within (c ∷ cs) = elim (cases_Bool (within || (is_blank c || c == 35))) [
  | inr stops ↦
      (let here : bytes_on within (c ∷ cs) ≡ 0 = cond-false (within || (is_blank c || c == 35)) (1 + bytes_on (not (c == 10) && (within || c == 35)) cs) 0 stops in
      inr (inl (here, (or_parts within (is_blank c || c == 35) stops).0)))
  | inl goes ↦
      (let next : Bool = not (c == 10) && (within || c == 35) in
      let here : bytes_on within (c ∷ cs) ≡ 1 + bytes_on next cs = cond-true (within || (is_blank c || c == 35)) (1 + bytes_on next cs) 0 goes in
      elim (ends_on next cs) [
        | inl all ↦ inl (omega arith)
        | inr other ↦ elim other [
          | inl none ↦
              (let empty = none.0 in
              let one : bytes_on within (c ∷ cs) ≡ 1 = omega arith in
              inr (inr ((omega arith), (let low = last_low within c goes none.1 in let same : get_or (c ∷ cs) (bytes_on within (c ∷ cs) - 1) 0 ≡ c = ap (λ (n : ℕ). get_or (c ∷ cs) (n - 1) 0) one in omega arith))))
          | inr last ↦
              (let some = last.0 in
              let low = last.1 in
              let place : bytes_on within (c ∷ cs) - 1 ≡ suc (bytes_on next cs - 1) = omega arith in
              let same : get_or (c ∷ cs) (bytes_on within (c ∷ cs) - 1) 0 ≡ get_or cs (bytes_on next cs - 1) 0 = ap (λ (n : ℕ). get_or (c ∷ cs) n 0) place in
              inr (inr ((omega arith), omega arith)))
        ]
      ])
]

bytes_few : (within : Bool) (cs : List ℕ) → bytes_on within cs ≤ length cs
bytes_few within [] = omega arith
bytes_few within (c ∷ cs) = elim (cases_Bool (within || (is_blank c || c == 35))) [
  | inr stops ↦
      (let here : bytes_on within (c ∷ cs) ≡ 0 = cond-false (within || (is_blank c || c == 35)) (1 + bytes_on (not (c == 10) && (within || c == 35)) cs) 0 stops in omega arith)
  | inl goes ↦
      (let next : Bool = not (c == 10) && (within || c == 35) in
      let here : bytes_on within (c ∷ cs) ≡ 1 + bytes_on next cs = cond-true (within || (is_blank c || c == 35)) (1 + bytes_on next cs) 0 goes in
      let rest = bytes_few next cs in omega arith)
]

head_edge : (bs : List ℕ) → IsUtf8 bs → IsCharBoundary bs (head_bytes bs)
unfolding Ends
head_edge bs utf8 = elim (ends_on false bs) [
  | inl all ↦ at (length bs) (sym all) (IsCharBoundary-end bs)
  | inr other ↦ elim other [
    | inl none ↦ at 0 (sym none.0) (IsCharBoundary-start bs utf8)
    | inr last ↦
        (let some = last.0 in
        let few = bytes_few false bs in
        at (head_bytes bs - 1 + 1) (omega arith) (IsCharBoundary-after_ascii bs (head_bytes bs - 1) utf8 (omega arith) last.1))
  ]
]
  where
    at : (n : ℕ) → n ≡ head_bytes bs → IsCharBoundary bs n → IsCharBoundary bs (head_bytes bs)
    at n same is = subst (IsCharBoundary bs) same is

pub edge : (bs : List ℕ) → IsUtf8 bs → IsCharBoundary bs (story_bytes bs)
edge bs utf8 =
    cond_both (on (take (head_bytes bs) bs) 35) (head_bytes bs) 0 (IsCharBoundary bs) (λ _. head_edge bs utf8) (λ _. IsCharBoundary-start bs utf8)
