-- The words that describe each kind of request to the board. Everything that depends on the kind of request is in
-- this file (own).
use Rattle.std.specs.Prelude.{ℕ, Bool, true, false, if◌then◌else◌, List, [], ◌∷◌, ◌++◌, codes, drop, flat_map, map, slice_index_or}
use Rattle.semantics.specs.declared.request.Request.{Request}
use Rattle.semantics.specs.declared.request.Request.TheVariants.{Get, Swap, Add, Cas, Copy}
use Rattle.board.specs.declared.wording.Wording.{Wording}

-- How the requests of one kind are described: by a word, a line in a chronicle, the words of this line with their
-- names, and a sentence in pieces. `copies` says whether the request copies words. The answer then has as many words
-- as the request's last number says, and else one word.
pub record Row : Type 0 where
  pub word : List ℕ
  pub shape : List ℕ
  pub parts : List (List ℕ × List ℕ)
  pub sentence : List (List ℕ × ℕ)
  pub copies : Bool

-- Returns an entry of the code's table as contracts see it.
abbrev pub row_of : Wording → Row
row_of w = record {
  word = w.word.now;
  shape = w.shape.now;
  parts = map (λ p. (p.0.now, p.1.now)) w.parts.now;
  sentence = map (λ p. (p.0.now, p.1)) w.sentence.now;
  copies = w.copies;
}

-- Returns the line of an access in a chronicle, with N for each number. For a request that copies words, the line
-- ends before the number of words to copy.
abbrev pub shape_by : List ℕ → List (List ℕ) → Bool → List ℕ
shape_by word names true = codes "access N " ++ word ++ flat_map (λ _. codes " N") (drop 1 names)
shape_by word names false = codes "access N " ++ word ++ flat_map (λ _. codes " N") names ++ codes " = N"

-- Returns the words of an access's line, each with its name. A dash means that an answer leaves the word out, N means
-- a number, and a star means the words of the board's answer.
abbrev pub parts_by : List ℕ → List (List ℕ) → List (List ℕ × List ℕ)
parts_by word names =
    (codes "access", codes "-") ∷ (codes "N", codes "general") ∷ (word, codes "request")
    ∷ map (λ name. (codes "N", name)) names ++ (codes "=", codes "-") ∷ (codes "*", codes "answer") ∷ []

-- Returns the description of a kind of request from its word, the names of its numbers and a sentence. After each
-- piece of the sentence comes the request's number with the given index.
abbrev pub row : List ℕ → List (List ℕ) → List (List ℕ × ℕ) → Bool → Row
row word names sentence copies = record {
  word = word;
  shape = shape_by word names copies;
  parts = parts_by word names;
  sentence = sentence;
  copies = copies;
}

-- The descriptions of all kinds of requests.
abbrev pub rows : List Row
rows =
    row (codes "get") (codes "slot" ∷ []) ((codes "reads word ", 0) ∷ []) false
    ∷ row (codes "swap") (codes "slot" ∷ codes "value" ∷ [])
    ((codes "writes ", 1) ∷ (codes " into word ", 0) ∷ []) false
    ∷ row (codes "add") (codes "slot" ∷ codes "value" ∷ []) ((codes "adds ", 1) ∷ (codes " to word ", 0) ∷ []) false
    ∷ row (codes "cas") (codes "slot" ∷ codes "expected" ∷ codes "new" ∷ [])
    ((codes "writes ", 2) ∷ (codes " into word ", 0) ∷ (codes " if it is ", 1) ∷ []) false
    ∷ row (codes "copy") (codes "slot" ∷ codes "count" ∷ [])
    ((codes "copies ", 1) ∷ (codes " words from word ", 0) ∷ []) true
    ∷ []

-- The description of a kind of request that does not exist, which has no words.
abbrev pub no_row : Row
no_row = row [] [] [] false

-- Returns the index of a request's description in `rows`, and the request's numbers.
abbrev pub asked : Request → ℕ × List ℕ
asked (Get slot) = (0, slot ∷ [])
asked (Swap slot value) = (1, slot ∷ value ∷ [])
asked (Add slot value) = (2, slot ∷ value ∷ [])
asked (Cas slot expected new) = (3, slot ∷ expected ∷ new ∷ [])
asked (Copy span) = (4, span.0 ∷ span.1 ∷ [])

-- Returns the description of a request.
abbrev pub row_asked : Request → Row
row_asked request = slice_index_or rows (asked request).0 no_row

-- Returns the numbers of a request.
abbrev pub numbers_asked : Request → List ℕ
numbers_asked request = (asked request).1

-- Returns which words of the board a request with these numbers names: the index of the first, and how many.
abbrev pub span_by : Bool → List ℕ → ℕ × ℕ
span_by copies numbers = (slice_index_or numbers 0 0, if copies then slice_index_or numbers 1 0 else 1)

-- Returns which words of the board a request names: the index of the first, and how many.
abbrev pub span_asked : Request → ℕ × ℕ
span_asked request = span_by (row_asked request).copies (numbers_asked request)
