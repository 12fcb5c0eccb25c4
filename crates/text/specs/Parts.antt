-- Defines how a text is cut at stops, which are bytes of a given kind, and split into pieces and lines.
use Rattle.std.specs.Prelude.{ℕ, suc, ◌≡◌, ◌+◌, List, [], ◌∷◌, length, if◌then◌else◌, Option, Some, None, take, drop}
use Rattle.std.proofs.Common.{Bor}
use Rattle.text.specs.declared.stop.Stop.{Stop}
use Rattle.text.specs.Stop.{is_stop, feed}

-- Returns how many bytes a text has before its first stop. If there is no stop, this is its length.
abbrev pub until : Stop → List ℕ → ℕ
until stop [] = 0
until stop (c ∷ cs) = if is_stop stop c then 0 else suc (until stop cs)

-- Returns the bytes of a text before its first stop, or the whole text if there is no stop.
abbrev pub before : Stop → List ℕ → List ℕ
before stop bytes = take (until stop bytes) bytes

-- Returns the bytes of a text from its first stop on, or no bytes if there is no stop.
abbrev pub from : Stop → List ℕ → List ℕ
from stop bytes = drop (until stop bytes) bytes

-- Puts one more byte at the start of the first of several pieces.
abbrev pub onto_first : ℕ → List (List ℕ) → List (List ℕ)
onto_first c [] = (c ∷ []) ∷ []
onto_first c (piece ∷ pieces) = (c ∷ piece) ∷ pieces

-- Returns the pieces of a text between its stops. There is one piece more than there are stops.
abbrev pub pieces : Stop → List ℕ → List (List ℕ)
pieces stop [] = [] ∷ []
pieces stop (c ∷ cs) = if is_stop stop c then [] ∷ pieces stop cs else onto_first c (pieces stop cs)

-- Returns the pieces of the text that follows a stop. Returns no pieces if there was no stop.
abbrev pub left : Stop → Option (Bor (List ℕ)) → List (List ℕ)
left stop None = []
left stop (Some rest) = pieces stop rest.now

-- Returns the length of a stop and the text after it: 1 for the stop, plus the length of the text. Returns 0 if there
-- was no stop.
abbrev pub left_len : Option (Bor (List ℕ)) → ℕ
left_len None = 0
left_len (Some rest) = length rest.now + 1

-- Returns the pieces without the last one if this is empty, because no line follows the last line feed of a text.
abbrev pub closed : List (List ℕ) → List (List ℕ)
closed [] = []
closed ([] ∷ []) = []
closed ((c ∷ cs) ∷ []) = (c ∷ cs) ∷ []
closed (line ∷ next ∷ lines) = line ∷ closed (next ∷ lines)

-- Returns the lines of a text, without their line feeds. The last line need not end with one.
abbrev pub lines_of : List ℕ → List (List ℕ)
lines_of text = closed (pieces feed text)

-- States that the pieces of a text are `front` and, if a stop follows it, the pieces of the text after this stop.
abbrev pub GivesPieces : Stop → List ℕ → Option (Bor (List ℕ)) → List (List ℕ) → Type 0
GivesPieces stop front None all = all ≡ front ∷ []
GivesPieces stop front (Some rest) all = all ≡ front ∷ pieces stop rest.now

-- States that the lines of a text are the given first line and the lines of the text after it. Without a first line the
-- text has no lines.
abbrev pub GivesLines : Option (Bor (List ℕ) × Bor (List ℕ)) → List (List ℕ) → Type 0
GivesLines None all = all ≡ []
GivesLines (Some cut) all = all ≡ cut.0.now ∷ lines_of cut.1.now
