-- The head of a diagram, built from its elements.
use Rattle.std.proofs.Common.{ℕ, ◌≡◌, List, ◌++◌, append_assoc}

regrouped : (s a b c d : List ℕ) → (((s ++ a) ++ b) ++ c) ++ d ≡ s ++ (((a ++ b) ++ c) ++ d)
regrouped s a b c d = simp append_assoc

pub four_parts : (start a b c d one two three four : List ℕ) → one ≡ start ++ a → two ≡ one ++ b → three ≡ two ++ c → four ≡ three ++ d → four ≡ start ++ (((a ++ b) ++ c) ++ d)
four_parts start a b c d one two three four e1 e2 e3 e4 = rw (e4, e3, e2, e1) (regrouped start a b c d)
