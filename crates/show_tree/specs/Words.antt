-- What a picture says about a label, in words. A stop, such as `; `, separates the phrases.
use Rattle.std.specs.Prelude.{ℕ, List, [], ◌++◌, codes, None, Option, Some}
use Rattle.std.specs.Fmt.{decimal}
use Rattle.book.specs.Explained.{dotted, order_words}
use Rattle.combine.specs.declared.outcome.Outcome.{Outcome}
use Rattle.combine.specs.Outcome.{outcome_words as list_words}
use Rattle.show_tree.specs.declared.node.Trust.{Trust}
use Rattle.show_tree.specs.declared.node.Trust.TheVariants.{Honest, Traitor, Lie}
use Rattle.show_tree.specs.declared.node.Extent.{Extent}
use Rattle.show_tree.specs.declared.node.Extent.TheVariants.{Last, Open, Folded, Cut}
use Rattle.show_tree.specs.declared.node.Node.{Node}

-- Writes the order that was received for a label, such as `received 1`.
abbrev pub told_words : Option ℕ → List ℕ
told_words told = codes "received " ++ order_words told

-- Writes that a missing order counts as 0, if the label has no list.
abbrev pub counted_words : Option Outcome → Option ℕ → List ℕ
counted_words None None = codes ", so 0"
counted_words outcome told = []

-- Writes the outcome of the list that is combined at a label, or nothing if it has no list.
abbrev pub outcome_words : List ℕ → Option Outcome → List ℕ
outcome_words stop None = []
outcome_words stop (Some outcome) = stop ++ list_words outcome

-- Writes that a message is a lie, or that it is by a traitor, if it is from a commander who is named as a traitor and
-- whose given order is not known. Writes nothing if no lie is known.
abbrev pub mark_words : List ℕ → Trust → List ℕ
mark_words stop Honest = []
mark_words stop Traitor = stop ++ codes "by a traitor"
mark_words stop (Lie general took) = stop ++ codes "a lie, " ++ decimal general ++ codes " took " ++ decimal took

-- Writes how many labels that extend a label are not shown, or nothing if all are shown.
abbrev pub extent_words : List ℕ → Extent → List ℕ
extent_words stop Last = []
extent_words stop Open = []
extent_words stop (Folded count) = stop ++ decimal count ++ codes " below received the same"
extent_words stop (Cut count) = stop ++ decimal count ++ codes " below not shown"

-- Writes what a picture says about a label.
abbrev pub words : List ℕ → Node → List ℕ
words stop node = told_words node.told ++ counted_words node.outcome node.told ++ outcome_words stop node.outcome
    ++ mark_words stop node.mark ++ extent_words stop node.extent

-- Writes the name of a label and what a picture says about it, such as `0.2: received 1`.
abbrev pub said : Node → List ℕ
said node = dotted node.label ++ codes ": " ++ words (codes "; ") node
