-- Laws of drawn trees. Each is the contract of a function of this crate.
use Rattle.std.specs.Prelude.{ℕ, suc, ◌≡◌, List, ◌++◌, codes, Some}
use Rattle.combine.specs.Rule.{outcome_of}
use Rattle.html.specs.Grammar.{IsElement}
use Rattle.book.specs.Explained.{list_of}
use Rattle.book.specs.Table.{MessageTable}
use Rattle.show_tree.specs.declared.node.View.{View}
use Rattle.show_tree.specs.Facts.{outcome_at}
use Rattle.show_tree.specs.Svg.{svg_text}

-- States that the outcome that a picture shows at a label with extensions is the outcome of the list in `book`'s
-- explanation.
abbrev pub OutcomesAreExplained : Type 0
OutcomesAreExplained = (t : MessageTable) (k : ℕ) (w : List ℕ) (p : ℕ) →
    outcome_at t (suc k) w p ≡ Some (outcome_of t.rule (list_of t k w p))

-- States that every picture in SVG is one XML element followed by a line feed.
abbrev pub PicturesAreElements : Type 0
PicturesAreElements = (t : MessageTable) (traitors : List ℕ) (view : View) (p : ℕ) →
    (text : List ℕ) × IsElement text × (svg_text t traitors view p ≡ text ++ codes "\n")
