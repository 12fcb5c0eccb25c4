-- The numbers of a campaign, given as text.
use Rattle.std.specs.Prelude.{ℕ, ◌≡◌, true, List, Option, Some}
use Rattle.combine.specs.declared.campaign_rule.Rule.{Rule}
use Rattle.combine.specs.Names.{default_rule}
use Rattle.book.specs.Grammar.{is_within}
use Rattle.text.specs.Number.{decimal_of}
use Rattle.text.specs.Options.{◌>>=◌}

-- Returns the numbers and the rule of a first line with these three words as its numbers and without a rule.
unfoldable pub numbers_in : List ℕ → List ℕ → List ℕ → Option (ℕ × ℕ × ℕ × Rule)
numbers_in n m c = decimal_of n >>= λ a. decimal_of m >>= λ b. decimal_of c >>= λ k. Some (a, b, k, default_rule)

-- States that the words are decimal numbers within the limits of a campaign, and that it has `generals` generals.
abbrev pub HasGenerals : List ℕ → List ℕ → List ℕ → ℕ → Type 0
HasGenerals n m c generals =
    (head : ℕ × ℕ × ℕ × Rule) × (numbers_in n m c ≡ Some head) × (is_within head.0 head.1 head.2 ≡ true)
    × (head.0 ≡ generals)
