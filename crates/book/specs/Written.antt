-- Message tables as text: a first line, and a line for each label and receiver that has a mark. A mark is an order or a
-- question mark.
use Rattle.std.specs.Prelude.{ℕ, zero, suc, ◌+◌, ◌==◌, Bool, false, if◌then◌else◌, List, [], ◌∷◌, ◌++◌, codes, Option, None, Some}
use Rattle.std.specs.Fmt.{decimal}
use Rattle.std.specs.List.{flat_map, range_with_len}
use Rattle.combine.specs.declared.campaign_rule.Rule.{Rule}
use Rattle.combine.specs.Names.{is_default}
use Rattle.combine.specs.Rule.{rule_name}
use Rattle.label.specs.Labels.{others}
use Rattle.label.specs.Oral.{Messages}
use Rattle.book.specs.Explained.{dotted}
use Rattle.book.specs.declared.mark.TableMark.{TableMark}
use Rattle.book.specs.declared.mark.TableMark.TheVariants.{Order, Open, Silence}

-- Writes the rule at the end of the first line. The default rule is not written.
abbrev pub rule_words : Rule → List ℕ
rule_words rule = if is_default rule then [] else codes " rule " ++ rule_name rule

-- Writes the first line of a table: the campaign's numbers and its rule.
abbrev pub first_line : ℕ → ℕ → ℕ → Rule → List ℕ
first_line n m c rule = codes "generals " ++ decimal n ++ codes " bound " ++ decimal m ++ codes " commander "
    ++ decimal c ++ rule_words rule ++ codes "\n"

-- Writes the line of a label, which is given as text, and a receiver, with an order or a question mark. Writes nothing
-- if nothing was received.
abbrev pub line_of : List ℕ → ℕ → TableMark → List ℕ
line_of label p (Order order) =
    codes "tell " ++ label ++ codes " " ++ decimal p ++ codes " " ++ decimal order ++ codes "\n"
line_of label p Open = codes "tell " ++ label ++ codes " " ++ decimal p ++ codes " ?\n"
line_of label p Silence = []

-- For each label and receiver, what a table has in place of the order.
abbrev pub Marking : Type 0
Marking = List ℕ → ℕ → TableMark

-- Writes a line for each receiver of each label that begins with `w` and has `k` further generals.
unfoldable pub lines_from : Marking → ℕ → ℕ → List ℕ → List ℕ
lines_from mark n zero w = flat_map (λ p. line_of (dotted w) p (mark w p)) (others n w)
lines_from mark n (suc k) w = flat_map (λ j. lines_from mark n k (w ++ j ∷ [])) (others n w)

-- Writes the whole table with these marks, the shorter labels first.
unfoldable pub written : Marking → ℕ → ℕ → ℕ → Rule → List ℕ
written mark n m c rule =
    first_line n m c rule ++ flat_map (λ k. lines_from mark n k (c ∷ [])) (range_with_len 0 (m + 1))

-- Returns the mark for an order that was received, or for nothing.
abbrev pub mark_of : Option ℕ → TableMark
mark_of None = Silence
mark_of (Some order) = Order order

-- Returns the marks of a table with the messages `M`.
abbrev pub telling : Messages → Marking
telling M w p = mark_of (M w p)

-- Writes the table of the messages `M`, in a campaign with these numbers and this rule.
abbrev pub table_text : Messages → ℕ → ℕ → ℕ → Rule → List ℕ
table_text M n m c rule = written (telling M) n m c rule

-- Checks whether the general is the last on the label, the one who sends the message.
abbrev pub ends_in : List ℕ → ℕ → Bool
ends_in [] g = false
ends_in (x ∷ []) g = x == g
ends_in (x ∷ y ∷ w) g = ends_in (y ∷ w) g

-- Returns the marks of a table in which all generals send this order. If a liar is given, his orders are question
-- marks.
abbrev pub loyal : ℕ → Option ℕ → Marking
loyal order None w p = Order order
loyal order (Some liar) w p = if ends_in w liar then Open else Order order
