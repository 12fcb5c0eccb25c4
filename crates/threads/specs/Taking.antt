-- Lists of letters from which one letter for each general and round is removed (own).
use Rattle.std.specs.Prelude.{ℕ, zero, suc, ◌≡◌, ◌<◌, ◌*◌, ◌==◌, ◌&&◌, Bool, cond, List, [], ◌∷◌, length}
use Rattle.round.specs.Letters.{Letter}
use Rattle.world.specs.Accounted.{letters_by}

-- Returns the list without the first letter for which the condition holds.
abbrev pub without : (Letter → Bool) → List Letter → List Letter
without is [] = []
without is (l ∷ letters) = cond (is l) letters (l ∷ without is letters)

-- Returns the list without the first letter of this general in this round.
abbrev pub left_by : ℕ → ℕ → List Letter → List Letter
left_by g round letters = without (λ l. (l.general == g) && (l.round == round)) letters

-- Returns the list without the first letter in this round of each of the first `g` generals.
abbrev pub left_by_all : ℕ → ℕ → List Letter → List Letter
left_by_all zero round letters = letters
left_by_all (suc g) round letters = left_by g round (left_by_all g round letters)

-- Returns the list without the first letter of each of the `n` generals in each of the first rounds.
abbrev pub left_rounds : ℕ → ℕ → List Letter → List Letter
left_rounds n zero letters = letters
left_rounds n (suc r) letters = left_by_all n (suc r) (left_rounds n r letters)

-- States that there is exactly one letter for each of `n` generals and each of the rounds.
pub record IsGrid (n rounds : ℕ) (letters : List Letter) : Type 0 where
  pub count : length letters ≡ rounds * n
  pub rows : (r : ℕ) → r < rounds → length (letters_by n (suc r) letters) ≡ n
