-- Rules that keep the majorities of lists of 0 and 1, and the first list that shows that a rule does not (own).
use Rattle.std.specs.Prelude.{ℕ, ◌+◌, ◌*◌, ◌^◌, ◌<◌, ◌≤◌, ◌≡◌, ◌≢◌, ◌==◌, ◌⊎◌, List, [], ◌∷◌, length, count_by}
use Rattle.label.specs.Oral.{AllBelow}

-- States that an order is in more than half of the places of a list.
abbrev pub IsMajorityOf : List ℕ → ℕ → Type 0
IsMajorityOf xs v = length xs < 2 * count_by (λ x. x == v) xs

-- States that a rule keeps the majority of a list: it returns the order in more than half of the places, if there is
-- one.
abbrev pub KeepsMajority : (List ℕ → ℕ) → List ℕ → Type 0
KeepsMajority f xs = (v : ℕ) → IsMajorityOf xs v → f xs ≡ v

-- States that a rule keeps the majorities of all lists of 0 and 1 with at most `most` orders.
abbrev pub KeepsMajorities : ℕ → (List ℕ → ℕ) → Type 0
KeepsMajorities most f = (xs : List ℕ) → length xs ≤ most → AllBelow 2 xs → KeepsMajority f xs

-- Returns the number whose binary digits are the orders of a list. The first order is the most significant digit.
abbrev pub binary : List ℕ → ℕ
binary [] = 0
binary (x ∷ xs) = x * 2 ^ length xs + binary xs

-- States that one list comes before another: it is shorter, or as long with a smaller binary number.
abbrev pub IsBefore : List ℕ → List ℕ → Type 0
IsBefore ys xs = (length ys < length xs) ⊎ ((length ys ≡ length xs) × (binary ys < binary xs))

-- States that a rule loses the majority of a list of 0 and 1: it returns another order.
pub record LosesMajority (f : List ℕ → ℕ) (xs : List ℕ) (majority returned : ℕ) : Type 0 where
  pub two : AllBelow 2 xs
  pub most : IsMajorityOf xs majority
  pub returns : f xs ≡ returned
  pub lost : returned ≢ majority

-- States that a list of at most `most` orders is the first one whose majority a rule loses.
pub record IsFirstLost (most : ℕ) (f : List ℕ → ℕ) (xs : List ℕ) (majority returned : ℕ) : Type 0 where
  pub short : length xs ≤ most
  pub loses : LosesMajority f xs majority returned
  pub first : (ys : List ℕ) → AllBelow 2 ys → IsBefore ys xs → KeepsMajority f ys

-- ---- Lists of one length

-- States that a rule keeps the majorities of all lists of 0 and 1 with this length.
abbrev pub KeepsOfLength : ℕ → (List ℕ → ℕ) → Type 0
KeepsOfLength size f = (xs : List ℕ) → length xs ≡ size → AllBelow 2 xs → KeepsMajority f xs

-- States that a list is the first one of this length whose majority a rule loses.
pub record IsFirstOfLength (size : ℕ) (f : List ℕ → ℕ) (xs : List ℕ) (majority returned : ℕ) : Type 0 where
  pub long : length xs ≡ size
  pub loses : LosesMajority f xs majority returned
  pub first : (ys : List ℕ) → length ys ≡ size → AllBelow 2 ys → binary ys < binary xs → KeepsMajority f ys
