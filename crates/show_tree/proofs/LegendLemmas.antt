-- The rows of a legend, one after another.
use Rattle.std.proofs.Common.{ℕ, ◌+◌, ◌≡◌, List, ◌++◌, append_assoc, codes, None, Some}
use Rattle.combine.specs.declared.outcome.Outcome.TheVariants.{Divided}
use Rattle.show_tree.specs.declared.node.Trust.{Trust}
use Rattle.show_tree.specs.declared.node.Trust.TheVariants.{Honest, Traitor, Lie}
use Rattle.show_tree.specs.declared.node.DrawnMarks.{DrawnMarks}
use Rattle.show_tree.specs.Legend.{meaning_if, meanings, one_if}

regrouped : (s a b c d : List ℕ) → (((s ++ a) ++ b) ++ c) ++ d ≡ s ++ (((a ++ b) ++ c) ++ d)
regrouped s a b c d = simp append_assoc

pub four_parts : (start a b c d one two three four : List ℕ) → one ≡ start ++ a → two ≡ one ++ b → three ≡ two ++ c → four ≡ three ++ d → four ≡ start ++ (((a ++ b) ++ c) ++ d)
four_parts start a b c d one two three four e1 e2 e3 e4 = rw (e4, e3, e2, e1) (regrouped start a b c d)

pub four_meanings : (marks : DrawnMarks) (dashed : Trust) (place a b c : ℕ) (start one two three four : List ℕ) → a ≡ one_if marks.circle → b ≡ one_if marks.square → c ≡ one_if marks.diamond
    → one ≡ start ++ meaning_if marks.circle place Honest None (codes "no lie is known")
    → two ≡ one ++ meaning_if marks.square (place + a) Traitor None (codes "the message of a named commander")
    → three ≡ two ++ meaning_if marks.diamond (place + a + b) (Lie 0 0) None (codes "a lie of a named traitor")
    → four ≡ three ++ meaning_if marks.dashes (place + a + b + c) dashed (Some (Divided 0)) (codes "no order has a majority")
    → four ≡ start ++ meanings marks dashed place
four_meanings marks dashed place a b c start one two three four ea eb ec e1 e2 e3 e4 =
    rw (e4, e3, e2, e1, ec, eb, ea)
    (regrouped start (meaning_if marks.circle place Honest None (codes "no lie is known"))
    (meaning_if marks.square (place + one_if marks.circle) Traitor None (codes "the message of a named commander"))
    (meaning_if marks.diamond (place + one_if marks.circle + one_if marks.square) (Lie 0 0) None (codes "a lie of a named traitor"))
    (meaning_if marks.dashes (place + one_if marks.circle + one_if marks.square + one_if marks.diamond) dashed (Some (Divided 0)) (codes "no order has a majority")))
