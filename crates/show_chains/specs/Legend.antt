-- The legend of a signed campaign's diagram: the meanings of the marks that occur in it.
use Rattle.std.specs.Prelude.{ℕ, List, codes}
use Rattle.show_diagram.specs.Legend.{legend_of}
use Rattle.show_diagram.specs.declared.mark.DiagramMarks.{DiagramMarks}

unfoldable pub sent_meaning : List ℕ
sent_meaning = codes "sent as a loyal general would send it"

unfoldable pub differs_meaning : List ℕ
differs_meaning = codes "sent, but a loyal general would not send it"

unfoldable pub missing_meaning : List ℕ
missing_meaning = codes "not sent, but a loyal general would send it"

unfoldable pub wide_meaning : List ℕ
wide_meaning = codes "A line is as wide as it has chains, up to 5; its row has the first, and how many."

abbrev pub legend : DiagramMarks → List ℕ
legend marks = legend_of marks sent_meaning differs_meaning missing_meaning wide_meaning
