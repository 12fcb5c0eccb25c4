-- What the reader of access lines has read so far: lists of the generals named, one list for each round (own).
use Rattle.std.specs.Prelude.{ℕ, List, [], ◌∷◌, ◌++◌, Option, Some, None}
use Rattle.std.proofs.Common.{Bor}
use Rattle.text.specs.Stop.{feed}
use Rattle.text.specs.Parts.{pieces}
use Rattle.trace.specs.declared.access_names.Mark.{Mark}
use Rattle.trace.specs.declared.access_names.Mark.TheVariants.{Round, Access, Other}
use Rattle.trace.specs.Names.{Named}

-- Returns the lists of generals named from a line on. The mark says what this line is, and `rest` has the lists for the
-- lines after it.
abbrev pub marked : Mark → Named → Named
marked Round rest = ([], rest.0 ∷ rest.1)
marked (Access g) rest = (g ∷ rest.0, rest.1)
marked Other rest = rest

-- Returns all lists of generals: the one for the lines before the first round, and then one for each round line.
abbrev pub all_names : Named → List (List ℕ)
all_names n = n.0 ∷ n.1

-- Returns the lines of the remaining text, or no lines if there is none.
abbrev pub lines_left : Option (Bor (List ℕ)) → List (List ℕ)
lines_left None = []
lines_left (Some rest) = pieces feed rest.now

-- Returns the lists in `n`, with `names` put in front of the first of them.
abbrev pub behind : List ℕ → Named → Named
behind names n = (names ++ n.0, n.1)
