-- The shapes of the lines that are printed: patterns of words, and the names of these words in JSON (own).
use Rattle.std.specs.Prelude.{ℕ, Bool, true, false, List, [], ◌∷◌, codes, map}
use Rattle.text.specs.Parts.{pieces}
use Rattle.text.specs.Stop.{space}
use Rattle.board.specs.Wording as asking
use Rattle.board.specs.Wording.{rows}
use Rattle.cli_answers.specs.declared.shape.Shape.{Shape}
use Rattle.cli_answers.specs.declared.shape.Within.{Within}
use Rattle.cli_answers.specs.declared.shape.Within.TheVariants.{Nothing, Round, Letter, Outbox, General}

-- A shape of lines: the kind of these lines, what each of their words may be with its name, and where the lines
-- belong. Its mark is a member that is true, or false, for all of these lines.
pub record Row : Type 0 where
  pub line : List ℕ
  pub parts : List (List ℕ × List ℕ)
  pub mark : List ℕ
  pub holds : Bool
  pub within : Within

-- Returns a shape of the code as contracts see it.
abbrev pub row_of : Shape → Row
row_of s = record {
  line = s.line.now;
  parts = map (λ p. (p.0.now, p.1.now)) s.parts.now;
  mark = s.mark.now;
  holds = s.holds;
  within = s.within;
}

-- Returns each word paired with its name.
abbrev pub paired : List (List ℕ) → List (List ℕ) → List (List ℕ × List ℕ)
paired (w ∷ ws) (n ∷ ns) = (w, n) ∷ paired ws ns
paired _ _ = []

-- Returns the shape with these words and names, whose mark has the value `holds`.
abbrev pub marked : List ℕ → List ℕ → List ℕ → List ℕ → Bool → Within → Row
marked line words names mark holds within = record {
  line = line;
  parts = paired (pieces space words) (pieces space names);
  mark = mark;
  holds = holds;
  within = within;
}

-- Returns the shape with these words and names, without a mark.
abbrev pub plain : List ℕ → List ℕ → List ℕ → Within → Row
plain line words names within = marked line words names [] false within

-- Returns the shape of lines that describe an access, where `r` gives the words of the request.
abbrev pub access_row : asking.Row → Row
access_row r = record { line = codes "access"; parts = r.parts; mark = []; holds = false; within = Round }

-- The shapes of lines that describe an access, one for each kind of request.
abbrev pub accesses : List Row
accesses = map access_row rows

-- The shapes of all other lines. The first shape that fits a line describes it.
unfoldable pub shapes : List Row
shapes =
    plain (codes "version") (codes "chronicle N") (codes "- version") Nothing
    ∷ plain (codes "campaign") (codes "generals N bound N commander N order N")
    (codes "- generals - bound - commander - order") Nothing
    ∷ plain (codes "campaign") (codes "generals N bound N commander N order N patience P rule C")
    (codes "- generals - bound - commander - order - patience - rule") Nothing
    ∷ plain (codes "campaign") (codes "signed generals N bound N commander N order N patience P")
    (codes "messages - generals - bound - commander - order - patience") Nothing
    ∷ plain (codes "round") (codes "round N") (codes "- round") Nothing
    ∷ marked (codes "letter") (codes "letter N loyal") (codes "- general -") (codes "loyal") true Round
    ∷ marked (codes "letter") (codes "letter N steps N") (codes "- general - steps") (codes "loyal") false Round
    ∷ plain (codes "row") (codes "row N *") (codes "- rank orders") Letter
    ∷ plain (codes "chain") (codes "chain N S to S") (codes "- order signers - receivers") Letter
    ∷ marked (codes "decision") (codes "decision N N") (codes "- general decision") (codes "traitor") false Nothing
    ∷ marked (codes "decision") (codes "decision N traitor N") (codes "- general - decision")
    (codes "traitor") true Nothing
    ∷ plain (codes "verdict") (codes "verdict alike A obeyed A bound A") (codes "- - alike - obeyed - bound") Nothing
    ∷ plain (codes "sound") (codes "sound") (codes "-") Nothing
    ∷ plain (codes "accepted") (codes "accepted N instructions N units") (codes "- instructions - units -") Nothing
    ∷ plain (codes "run") (codes "r0 N steps N") (codes "- r0 - steps") Nothing
    ∷ plain (codes "put") (codes "put N N N") (codes "- rank receiver order") Outbox
    ∷ plain (codes "word") (codes "word N N") (codes "- slot value") Nothing
    ∷ plain (codes "table") (codes "generals N bound N commander N") (codes "- generals - bound - commander") Nothing
    ∷ plain (codes "table") (codes "generals N bound N commander N rule C")
    (codes "- generals - bound - commander - rule") Nothing
    ∷ plain (codes "message") (codes "tell S N N") (codes "- label receiver order") Nothing
    ∷ plain (codes "certified") (codes "certified generals N") (codes "- - generals") Nothing
    ∷ plain (codes "uncertified") (codes "uncertified majority N result N list *")
    (codes "- - majority - result - list") Nothing
    ∷ plain (codes "none") (codes "none of E") (codes "- - exponent") Nothing
    ∷ plain (codes "broken") (codes "broken traitors *") (codes "- - traitors") Nothing
    ∷ plain (codes "lieutenant") (codes "lieutenant N") (codes "- general") Nothing
    ∷ plain (codes "acceptance") (codes "accepts N, signed S") (codes "- order - signers") General
    ∷ []

-- The shapes of what a line has before a colon and a reason.
unfoldable pub reasons : List Row
reasons =
    marked (codes "decision") (codes "decision N N") (codes "- general decision") (codes "traitor") false Nothing
    ∷ marked (codes "decision") (codes "decision N traitor N") (codes "- general - decision")
    (codes "traitor") true Nothing
    ∷ plain (codes "condition") (codes "bound A") (codes "condition holds") Nothing
    ∷ plain (codes "condition") (codes "IC1 A") (codes "condition holds") Nothing
    ∷ plain (codes "condition") (codes "IC2 A") (codes "condition holds") Nothing
    ∷ []

-- The shapes of where an error is: at a line or unit, in a traitor's program, or at a general.
unfoldable pub error_places : List Row
error_places =
    plain (codes "refused") (codes "line N") (codes "- line_number") Nothing
    ∷ plain (codes "refused") (codes "unit N") (codes "- unit") Nothing
    ∷ plain (codes "refused") (codes "general N") (codes "- general") Nothing
    ∷ plain (codes "refused") (codes "traitor N W line N") (codes "- traitor inner_code - line_number") Nothing
    ∷ plain (codes "refused") (codes "traitor N W unit N") (codes "- traitor inner_code - unit") Nothing
    ∷ plain (codes "refused") (codes "traitor N W") (codes "- traitor inner_code") Nothing
    ∷ []

-- The words of the first entry of a list, after a blank: the order that a lieutenant received, or `nothing`.
abbrev pub received : List (List ℕ × List ℕ)
received = (codes "", codes "-") ∷ (codes "received", codes "-") ∷ (codes "O", codes "received") ∷ []

-- The words of another entry of a list, after a blank: a label, and the order that is held for it, or `nothing`.
abbrev pub entry : List (List ℕ × List ℕ)
entry = (codes "", codes "-") ∷ (codes "S", codes "label") ∷ (codes "O", codes "order") ∷ []
