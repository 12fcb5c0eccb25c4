-- The first line of a text that was split at its first line feed.
use Rattle.std.proofs.Common.{◌≡◌, ◌<◌, ℕ, List, [], ◌∷◌, Bor, length, refl, ap, ◌∙◌, arith}
use Rattle.std.specs.Prelude.{None, Some}
use Rattle.std.proofs.lemmas.Str.Pattern.{IsSplitOnceResult, split_parts}
use Rattle.text.specs.Stop.{feed}
use Rattle.text.specs.Parts.{closed, lines_of}
use Rattle.text.proofs.CutLemmas.{lines_of-append, pieces-all}
use Rattle.asm.proofs.ByteLemmas.{lacks_byte}

closed_one : (text : List ℕ) → 0 < length text → closed (text ∷ []) ≡ text ∷ []
closed_one [] some = absurd (omega arith)
closed_one (c ∷ cs) some = refl

-- There is no line feed in the text.
pub one_line : (text : List ℕ) → 0 < length text → IsSplitOnceResult 10 text None → lines_of text ≡ text ∷ []
one_line text some split =
    let lacks = lacks_byte 10 text (split_parts 10 text None split (omega arith)) in
    ap closed (pieces-all feed text lacks) ∙ closed_one text some

-- The line before it, and the text after it.
pub cut_line : (text : List ℕ) (cut : Bor (List ℕ) × Bor (List ℕ)) → IsSplitOnceResult 10 text (Some cut) → lines_of text ≡ cut.0.now ∷ lines_of cut.1.now
cut_line text cut split =
    let parts = split_parts 10 text (Some cut) split (omega arith) in
    ap lines_of parts.0 ∙ lines_of-append cut.0.now cut.1.now (lacks_byte 10 cut.0.now parts.1)
