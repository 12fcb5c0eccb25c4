-- The generals who make the accesses that a text lists, by round, and the chronicle of the replay of these accesses
-- (own).
use Rattle.std.specs.Prelude.{ℕ, cond, List, [], ◌∷◌, ◌++◌, map, filter, decimal, codes, bytes_eq}
use Rattle.text.specs.Stop.{space, feed}
use Rattle.text.specs.Parts.{pieces}
use Rattle.label.specs.Labels.{generals}
use Rattle.round.specs.Scenario.{Scenario}
use Rattle.world.specs.World.{opening, run}
use Rattle.world.specs.Lists.{replayed}
use Rattle.world.specs.Chronicle.{Chronicle, chronicle_of}
use Rattle.trace.specs.Text.{Word, Line}

-- Returns the general whose number (0 to 12) this word is, as a list. The list is empty if it is no such number.
abbrev pub general_of : Word → List ℕ
general_of w = filter (λ g. bytes_eq (decimal g) w) (generals 13)

-- Lists of generals named in a text: one for the lines before the first round line, and one for the lines after each
-- round line.
abbrev pub Named : Type 0
Named = List ℕ × List (List ℕ)

-- Returns the lists of generals named from this line on. `rest` has the lists for the lines after it.
abbrev pub with_line : Line → Named → Named
with_line (w ∷ v ∷ vs) rest =
    cond (bytes_eq w (codes "round")) ([], rest.0 ∷ rest.1)
    (cond (bytes_eq w (codes "access")) (general_of v ++ rest.0, rest.1) rest)
with_line _ rest = rest

abbrev pub named : List Line → Named
named [] = ([], [])
named (l ∷ ls) = with_line l (named ls)

-- Returns for each round line of a text the generals named by the access lines between it and the next round line.
unfoldable pub names_of : List ℕ → List (List ℕ)
names_of t = (named (map (pieces space) (pieces feed t))).1

-- Returns the chronicle of the replay of the accesses that a text lists.
unfoldable pub chronicle_told : Scenario → List ℕ → Chronicle
chronicle_told s t = chronicle_of (run (opening s) (replayed s (names_of t)))
