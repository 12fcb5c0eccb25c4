-- Texts that are joined, each after the one before.
use Rattle.std.proofs.Common.{ℕ, ◌≡◌, ◌∙◌, List, [], ◌∷◌, ◌++◌, ap, append_assoc}
use Rattle.html.specs.Sections.{Section}

-- One more text.
pub chained : (start so_far piece old new : List ℕ) → old ≡ start ++ so_far → new ≡ old ++ piece → new ≡ start ++ (so_far ++ piece)
chained start so_far piece old new first more = more ∙ (ap (λ text. text ++ piece) first ∙ append_assoc start so_far piece)

-- Two lists of seven sections with equal sections are equal.
pub same_sections : (a b c d e f g : Section) (h i j k l m n : Section) → a ≡ h → b ≡ i → c ≡ j → d ≡ k → e ≡ l → f ≡ m → g ≡ n
    → (a ∷ b ∷ c ∷ d ∷ e ∷ f ∷ g ∷ []) ≡ (h ∷ i ∷ j ∷ k ∷ l ∷ m ∷ n ∷ [])
same_sections a b c d e f g h i j k l m n p q r s t u v = cc
