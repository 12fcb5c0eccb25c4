-- Entries with too many parts.
use Rattle.std.proofs.Common.{◌≡◌, List, ℕ, ◌∷◌, None, refl}
use Rattle.text.specs.Parts.{pieces}
use Rattle.text.proofs.PartsLemmas.{pieces_is}
use Rattle.trace.specs.Schedules.{star, entry_of}

-- More than two parts between stars are not an entry.
pub entry_too_long : (a b rest : List ℕ) → None ≡ entry_of (a ∷ b ∷ pieces star rest)
entry_too_long a b rest = rw (pieces_is star rest) refl
