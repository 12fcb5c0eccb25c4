-- The board answers each request that names words within it, and its words are again a board.
use Rattle.std.proofs.Common.{◌≡◌, ℕ, zero, suc, ◌+◌, ◌^◌, ◌<◌, ◌≤◌, ◌%◌, List, [], ◌∷◌, length, take, drop, Bool, true, false, cond, refl, ap, arith, All}
use Rattle.std.specs.Prelude.{◌==◌, nat_lt, ◌&&◌, slice_index, slice_set}
use Rattle.std.specs.List.{list_all}
use Rattle.std.proofs.lemmas.Bool.{lt-ltb, eq-eqb}
use Rattle.std.proofs.lemmas.List.{length-take-le, length-drop}
use Rattle.std.proofs.Math.Nat.{mod-lt}
use Rattle.semantics.specs.declared.request.Request.{Request}
use Rattle.semantics.specs.declared.request.Request.TheVariants.{Copy}
use Rattle.semantics.specs.Call.{fits}
use Rattle.board.specs.Board.{IsBoard, reply, next}
use Rattle.board.specs.Requests.{IsRequest}

-- States that each number of a list is a word of 64 bits.
abbrev AreWords : List ℕ → Type 0
AreWords [] = Unit {0}
AreWords (w ∷ ws) = (w < 2 ^ 64) × AreWords ws

words_of_all : (ws : List ℕ) → All (λ word. word < 2 ^ 64) ws → AreWords ws
words_of_all [] h = tt
words_of_all (w ∷ ws) h = (h 0 0 (omega arith), words_of_all ws (λ k d lt. h (suc k) d (omega arith)))

all_of_words : (ws : List ℕ) → AreWords ws → All (λ word. word < 2 ^ 64) ws
all_of_words [] h k d lt = absurd (omega arith)
all_of_words (w ∷ ws) h zero d lt = h.0
all_of_words (w ∷ ws) h (suc k) d lt = all_of_words ws h.1 k d (omega arith)

word_at : (ws : List ℕ) (i : ℕ) → AreWords ws → slice_index ws i < 2 ^ 64
word_at [] i h = omega arith
word_at (w ∷ ws) zero h = h.0
word_at (w ∷ ws) (suc i) h = word_at ws i h.1

words_set : (ws : List ℕ) (i v : ℕ) → AreWords ws → v < 2 ^ 64 → AreWords (slice_set ws i v)
words_set [] i v h small = tt
words_set (w ∷ ws) zero v h small = (small, h.1)
words_set (w ∷ ws) (suc i) v h small = (h.0, words_set ws i v h.1 small)

set_length : (ws : List ℕ) (i v : ℕ) → length (slice_set ws i v) ≡ length ws
set_length [] i v = refl
set_length (w ∷ ws) zero v = refl
set_length (w ∷ ws) (suc i) v = ap suc (set_length ws i v)

words_drop : (n : ℕ) (ws : List ℕ) → AreWords ws → AreWords (drop n ws)
words_drop zero ws h = h
words_drop (suc n) [] h = tt
words_drop (suc n) (w ∷ ws) h = words_drop n ws h.1

words_take : (n : ℕ) (ws : List ℕ) → AreWords ws → AreWords (take n ws)
words_take zero ws h = tt
words_take (suc n) [] h = tt
words_take (suc n) (w ∷ ws) h = (h.0, words_take n ws h.1)

words_tested : (ws : List ℕ) → AreWords ws → list_all (λ word. nat_lt word (2 ^ 64)) ws ≡ true
words_tested [] h = refl
words_tested (w ∷ ws) h = rw (lt-ltb w (2 ^ 64) h.0) (words_tested ws h.1)

taken_length : (n s : ℕ) (ws : List ℕ) → s + n ≤ length ws → length (take n (drop s ws)) ≡ n
taken_length n s ws le = length-take-le n (drop s ws) (let e = length-drop s ws in omega arith)

one_fits : (w : ℕ) → w < 2 ^ 64 → ((1 == 1) && (nat_lt w (2 ^ 64) && true)) ≡ true
one_fits w h = rw (lt-ltb w (2 ^ 64) h) refl

pub reply_fits : (words : List ℕ) (request : Request) → IsBoard words → IsRequest request → fits request (reply words request) ≡ true
reply_fits words (Copy span) board within =
    let long : length (take span.1 (drop span.0 words)) ≡ span.1 = taken_length span.1 span.0 words (let l = board.long in omega arith) in
    rw (eq-eqb (length (take span.1 (drop span.0 words))) span.1 long) (words_tested (take span.1 (drop span.0 words)) (words_take span.1 (drop span.0 words) (words_drop span.0 words (words_of_all words board.each))))
reply_fits words request board within = one_fits _ (word_at words _ (words_of_all words board.each))

set_board : (words : List ℕ) (slot value : ℕ) → IsBoard words → value < 2 ^ 64 → IsBoard (slice_set words slot value)
set_board words slot value board small = record {
  long = (let e = set_length words slot value in let l = board.long in omega arith);
  each = all_of_words (slice_set words slot value) (words_set words slot value (words_of_all words board.each) small);
}

board_if : (b : Bool) (words others : List ℕ) → IsBoard words → IsBoard others → IsBoard (cond b words others)
board_if true words others board other = board
board_if false words others board other = other

cut_small : (n : ℕ) → n % 2 ^ 64 < 2 ^ 64
cut_small n = mod-lt n (omega arith)

pub next_board : (words : List ℕ) (request : Request) → IsBoard words → IsRequest request → IsBoard (next words request)
next_board words (Copy span) board within = board
next_board words request board within = search (set_board, board_if, cut_small)
