-- Lines with too many words.
use Rattle.std.proofs.Common.{◌≡◌, List, ℕ, ◌∷◌, None, refl}
use Rattle.text.specs.Stop.{space}
use Rattle.text.specs.Parts.{pieces}
use Rattle.text.proofs.PartsLemmas.{pieces_is}
use Rattle.book.specs.Grammar.{rule_parts, tell_parts}

-- More than four words.
pub tell_too_long : (a b c d rest : List ℕ) → None ≡ tell_parts (a ∷ b ∷ c ∷ d ∷ pieces space rest)
tell_too_long a b c d rest = rw (pieces_is space rest) refl

-- More than two words.
pub rule_too_long : (a b rest : List ℕ) → None ≡ rule_parts (a ∷ b ∷ pieces space rest)
rule_too_long a b rest = rw (pieces_is space rest) refl
