-- States when the letters that came from each general are exactly those that he has posted, in order (own).
use Rattle.std.specs.Prelude.{◌≡◌, ℕ, List, [], ◌∷◌, ◌==◌, filter}
use Rattle.round.specs.Letters.{Letter}
use Rattle.threads.specs.declared.knowledge.Posted.{Posted}

-- Returns those of the letters that are from this general, in order.
abbrev pub letters_of : ℕ → List Letter → List Letter
letters_of general letters = filter (λ l. l.general == general) letters

abbrev pub posted : ℕ → List Letter → Posted
posted general letters = record { general = general; letters = letters }

-- States that, for each of these generals, the letters that came from him are exactly those that he has posted, in the
-- same order.
abbrev pub AreDelivered : List Letter → List Posted → Type 0
AreDelivered came [] = Unit {0}
AreDelivered came (p ∷ rest) = (p.letters ≡ letters_of p.general came) × AreDelivered came rest
