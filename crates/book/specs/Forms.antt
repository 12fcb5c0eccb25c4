-- Message tables to fill in: a first line, and then a line for each label and receiver with a mark in place of the
-- order.
use Rattle.std.specs.Prelude.{ℕ, zero, suc, ◌+◌, ◌^◌, ◌<◌, ◌≡◌, true, List, [], ◌∷◌, ◌++◌, codes, Some, Ok}
use Rattle.std.specs.Fmt.{decimal}
use Rattle.std.specs.List.{flat_map, range_with_len}
use Rattle.combine.specs.declared.campaign_rule.Rule.TheVariants.{Majority}
use Rattle.label.specs.Labels.{others}
use Rattle.book.specs.Explained.{dotted}
use Rattle.book.specs.Grammar.{is_place, is_within, table_told}
use Rattle.book.specs.Table.{MessageTable, told}

-- Writes the first line of a table: the campaign's numbers.
abbrev pub head_text : ℕ → ℕ → ℕ → List ℕ
head_text n m c =
    codes "generals " ++ decimal n ++ codes " bound " ++ decimal m ++ codes " commander " ++ decimal c ++ codes "\n"

-- Writes the line of the label `w` and the receiver `p`, with this mark in place of the order.
abbrev pub place_line : List ℕ → ℕ → List ℕ → List ℕ
place_line w p mark = codes "tell " ++ dotted w ++ codes " " ++ decimal p ++ codes " " ++ mark ++ codes "\n"

-- Writes a line for each receiver of each label that begins with `w` and has `k` further generals. `mark` says what is
-- in place of the order.
unfoldable pub place_lines : (List ℕ → ℕ → List ℕ) → ℕ → ℕ → List ℕ → List ℕ
place_lines mark n zero w = flat_map (λ p. place_line w p (mark w p)) (others n w)
place_lines mark n (suc k) w = flat_map (λ j. place_lines mark n k (w ++ j ∷ [])) (others n w)

-- Writes the whole table, the shorter labels first. `mark` says what is in place of each order.
unfoldable pub marked_text : (List ℕ → ℕ → List ℕ) → ℕ → ℕ → ℕ → List ℕ
marked_text mark n m c = head_text n m c ++ flat_map (λ k. place_lines mark n k (c ∷ [])) (range_with_len 0 (m + 1))

-- Returns a question mark, the mark that is to be filled in.
abbrev pub blank : List ℕ → ℕ → List ℕ
blank w p = codes "?"

-- Writes the message table of a campaign, to fill in, with a question mark in place of each order.
abbrev pub form_text : ℕ → ℕ → ℕ → List ℕ
form_text n m c = marked_text blank n m c

-- Writes the message table of a campaign, filled in with these orders.
abbrev pub filled_text : (List ℕ → ℕ → ℕ) → ℕ → ℕ → ℕ → List ℕ
filled_text order n m c = marked_text (λ w p. decimal (order w p)) n m c

-- States that the table has these numbers and the default rule, and that each lieutenant received these orders for all
-- labels.
pub record IsFilledIn (order : List ℕ → ℕ → ℕ) (n m c : ℕ) (t : MessageTable) : Type 0 where
  pub generals : t.generals ≡ n
  pub bound : t.bound ≡ m
  pub commander : t.commander ≡ c
  pub rule : t.rule ≡ Majority
  pub told : (w : List ℕ) (p : ℕ) → is_place t w p ≡ true → told t.messages w p ≡ Some (order w p)

-- States that if orders of 32 bits replace the question marks of a table to fill in, it is read as a table with these
-- orders.
abbrev pub FormsAreRead : Type 0
FormsAreRead =
    (order : List ℕ → ℕ → ℕ) → ((w : List ℕ) (p : ℕ) → order w p < 2 ^ 32) → (n m c : ℕ) → is_within n m c ≡ true
    → (t : MessageTable) × (table_told (filled_text order n m c) ≡ Ok t) × IsFilledIn order n m c t
