-- The words that a diagram uses for strokes, accesses to the board, and the roles of generals.
use Rattle.std.specs.Prelude.{ℕ, ◌==◌, Bool, true, false, if◌then◌else◌, List, [], ◌++◌, flat_map, codes, slice_index_or, Option, None, Some}
use Rattle.std.specs.Fmt.{decimal}
use Rattle.semantics.specs.declared.request.Request.{Request}
use Rattle.board.specs.Wording.{numbers_asked, row_asked}
use Rattle.board.specs.Board.{Access}
use Rattle.show_diagram.specs.declared.stroke.Stroke.{Stroke}

-- Writes an order, or `nothing` if none was sent.
abbrev pub order_words : Option ℕ → List ℕ
order_words None = codes "nothing"
order_words (Some order) = decimal order

-- Writes a number of labels, such as `, 3 labels`, or nothing if it is 1.
abbrev pub labels_words : ℕ → List ℕ
labels_words labels = if labels == 1 then [] else codes ", " ++ decimal labels ++ codes " labels"

-- Writes that a faithful general would send something else, or nothing.
abbrev pub differs_words : Bool → List ℕ
differs_words true = codes "; an honest relay would send something else"
differs_words false = []

-- Writes the sender and the receiver of a message, such as `general 2 sends general 3: `.
unfoldable pub tells_words : ℕ → ℕ → List ℕ
tells_words teller p = codes "general " ++ (decimal teller ++ (codes " sends general " ++ (decimal p ++ codes ": ")))

-- Writes the full words of a stroke: the sender, the receiver, the order, the number of labels, and whether a
-- faithful general would send something else.
abbrev pub stroke_words : Stroke → List ℕ
stroke_words stroke = tells_words stroke.teller stroke.receiver ++ order_words stroke.told ++ labels_words stroke.labels
    ++ differs_words stroke.differs

-- Writes the sender of a message, such as `from 2: `.
unfoldable pub from_words : ℕ → List ℕ
from_words teller = codes "from " ++ (decimal teller ++ codes ": ")

-- Writes the words of a stroke in its receiver's list: the sender, the order and the number of labels.
abbrev pub row_words : Stroke → List ℕ
row_words stroke = from_words stroke.teller ++ order_words stroke.told ++ labels_words stroke.labels

-- Returns the class of a stroke: `told` if a faithful general would send the same, else `lie` if an order was sent,
-- and `none` if none was sent.
abbrev pub kind_of : Bool → Option ℕ → List ℕ
kind_of false told = codes "told"
kind_of true (Some order) = codes "lie"
kind_of true None = codes "none"

-- Returns the class of a stroke: `told`, `lie` or `none`.
abbrev pub kind : Stroke → List ℕ
kind stroke = kind_of stroke.differs stroke.told

-- Returns the path data of a stroke's mark: an arrowhead and a circle if a faithful general would send the same, else
-- an arrowhead and a diamond if an order was sent, and a cross if none was sent.
abbrev pub outline_of : Bool → Option ℕ → List ℕ
outline_of false told = codes "M-12-4L-7 0M-12 4L-7 0M0-4a4 4 0 0 1 0 8a4 4 0 0 1 0-8z"
outline_of true (Some order) = codes "M-12-4L-7 0M-12 4L-7 0M0-6l6 6l-6 6l-6-6z"
outline_of true None = codes "M-5-5L5 5M5-5L-5 5"

-- Returns the path data of the mark of an access, a circle.
abbrev pub access_outline : List ℕ
access_outline = codes "M0-4a4 4 0 0 1 0 8a4 4 0 0 1 0-8z"

-- Returns the path data of a stroke's mark: a circle, a diamond or a cross.
abbrev pub outline : Stroke → List ℕ
outline stroke = outline_of stroke.differs stroke.told

-- Writes a piece of a sentence, and the number that has the piece's index in `numbers`.
abbrev pub piece_words : List ℕ → List ℕ × ℕ → List ℕ
piece_words numbers piece = piece.0 ++ decimal (slice_index_or numbers piece.1 0)

-- Writes a request to the board as a sentence, such as `copies 2 words from word 0`.
abbrev pub asked_words : Request → List ℕ
asked_words request = flat_map (piece_words (numbers_asked request)) (row_asked request).sentence

-- Writes a word of the board after a space.
abbrev pub word_words : ℕ → List ℕ
word_words word = codes " " ++ decimal word

-- Writes the words of the board's answer, each after a space.
abbrev pub answered_words : List ℕ → List ℕ
answered_words words = flat_map word_words words

-- Writes the board's answer, such as `; answer 5`.
abbrev pub answer_words : List ℕ → List ℕ
answer_words words = codes "; answer" ++ answered_words words

-- Writes the name of general g, such as `general 2`.
abbrev pub general_words : ℕ → List ℕ
general_words g = codes "general " ++ decimal g

-- Writes the full words of an access: the general, his request and the answer.
abbrev pub access_words : Access → List ℕ
access_words a = general_words a.general ++ codes " " ++ asked_words a.request ++ answer_words a.reply

-- Returns whether a request copies words of the board.
unfoldable pub is_copy : Request → Bool
is_copy request = (row_asked request).copies

-- Writes the words that are drawn next to the board for an access: the request and the answer. The answer is left out
-- if the request copies words.
abbrev pub shown_words : Access → List ℕ
shown_words a = asked_words a.request ++ (if is_copy a.request then [] else answer_words a.reply)

-- Writes a sentence of a diagram's description, with words for which the diagram has no room.
abbrev pub in_full : List ℕ → List ℕ
in_full words = codes " In full: " ++ words ++ codes "."

-- Writes the full words of an access as a sentence if it copies words, else nothing.
abbrev pub copied_words : Access → List ℕ
copied_words a = if is_copy a.request then in_full (access_words a) else []

-- Writes the role of a general: whether he is the commander, and whether he is a traitor.
abbrev pub role_words : Bool → Bool → List ℕ
role_words true true = codes "commander, traitor"
role_words true false = codes "commander, loyal"
role_words false true = codes "lieutenant, traitor"
role_words false false = codes "lieutenant, loyal"
