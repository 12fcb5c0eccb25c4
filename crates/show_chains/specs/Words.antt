-- The words of a signed campaign's diagram for chains and strokes.
use Rattle.std.specs.Prelude.{ℕ, ◌==◌, nat_lt, Bool, true, false, if◌then◌else◌, List, [], ◌∷◌, ◌++◌, flat_map, codes, Option, None, Some}
use Rattle.std.specs.Fmt.{decimal}
use Rattle.book.specs.Explained.{dotted}
use Rattle.show_diagram.specs.Words.{in_full}
use Rattle.signed.specs.Chains.{Chain}
use Rattle.show_chains.specs.Strokes.{Drawn}

-- Returns a chain's order and signers, such as `1 signed 0.2`.
abbrev pub chain_words : Chain → List ℕ
chain_words ch = decimal ch.order ++ codes " signed " ++ dotted ch.signers

abbrev pub further_words : Chain → List ℕ
further_words ch = codes ", " ++ chain_words ch

abbrev pub chains_words : List Chain → List ℕ
chains_words [] = []
chains_words (ch ∷ chains) = chain_words ch ++ flat_map further_words chains

unfoldable pub sends_words : ℕ → ℕ → List ℕ
sends_words g p = codes "general " ++ (decimal g ++ (codes " sends general " ++ (decimal p ++ codes ": ")))

unfoldable pub withholds_words : ℕ → ℕ → List ℕ
withholds_words g p = codes "general " ++ (decimal g ++ (codes " does not send general " ++ (decimal p ++ codes ": ")))

abbrev pub lead_words : ℕ → ℕ → Option ℕ → List ℕ
lead_words g p None = withholds_words g p
lead_words g p (Some order) = sends_words g p

abbrev pub differs_words : Bool → Option ℕ → List ℕ
differs_words false told = []
differs_words true None = codes "; a loyal general would"
differs_words true (Some order) = codes "; a loyal general would not"

-- Returns a stroke's sentence: who sends or withholds which chains, to whom, and whether a loyal general would do
-- otherwise.
abbrev pub stroke_words : Drawn → List ℕ
stroke_words x =
    lead_words x.stroke.teller x.stroke.receiver x.stroke.told
    ++ chains_words x.chains
    ++ differs_words x.stroke.differs x.stroke.told

-- Returns a sentence with all chains of a stroke that has more than one. The receiver's list has room only for the
-- first.
abbrev pub several_words : Drawn → List ℕ
several_words x = if nat_lt 1 x.stroke.labels then in_full (stroke_words x) else []

-- Returns the text of a stroke's row in the receiver's list: its first chain, and the number of its chains if there are
-- more, such as `1 by 0.2 (3)`.
abbrev pub short_words : Chain → List ℕ
short_words ch = decimal ch.order ++ codes " by " ++ dotted ch.signers

abbrev pub first_words : List Chain → List ℕ
first_words [] = []
first_words (ch ∷ chains) = short_words ch

abbrev pub count_words : ℕ → List ℕ
count_words chains = if chains == 1 then [] else codes " (" ++ decimal chains ++ codes ")"

abbrev pub row_words : Drawn → List ℕ
row_words x = first_words x.chains ++ count_words x.stroke.labels
