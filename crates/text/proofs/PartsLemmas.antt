-- Lemmas about the first piece and the first line of a text.
use Rattle.std.proofs.Common.{◌≡◌, ℕ, suc, ◌-◌, ◌<◌, ◌≤◌, Bool, true, false, cond, List, [], ◌∷◌, length, take, drop, refl, ap, ◌∙◌, arith}
use Rattle.std.proofs.lemmas.List.{take_all}
use Rattle.text.specs.declared.stop.Stop.{Stop}
use Rattle.text.specs.Stop.{is_stop, feed}
use Rattle.text.specs.Parts.{until, before, from, pieces, onto_first, closed, lines_of}

abbrev pub behind : Stop → List ℕ → List (List ℕ)
behind stop [] = []
behind stop (c ∷ cs) = pieces stop cs

step : (b : Bool) (c : ℕ) (cs : List ℕ) (n : ℕ) (stop : Stop) → pieces stop cs ≡ take n cs ∷ behind stop (drop n cs)
    → cond b ([] ∷ pieces stop cs) (onto_first c (pieces stop cs)) ≡ take (cond b 0 (suc n)) (c ∷ cs) ∷ behind stop (drop (cond b 0 (suc n)) (c ∷ cs))
step true c cs n stop h = refl
step false c cs n stop h = rw h refl

pub pieces_is : (stop : Stop) (bytes : List ℕ) → pieces stop bytes ≡ before stop bytes ∷ behind stop (from stop bytes)
pieces_is stop [] = refl
pieces_is stop (c ∷ cs) = step (is_stop stop c) c cs (until stop cs) stop (pieces_is stop cs)

pub piece_last : (stop : Stop) (bytes front rest : List ℕ) → front ≡ before stop bytes → rest ≡ from stop bytes → length rest < 1 → pieces stop bytes ≡ front ∷ []
piece_last stop bytes front [] e f lt = pieces_is stop bytes ∙ rw (← f, ← e) refl
piece_last stop bytes front (c ∷ cs) e f lt = absurd (omega (arith, lt))

pub piece_first : (stop : Stop) (bytes front rest : List ℕ) → front ≡ before stop bytes → rest ≡ from stop bytes → 1 ≤ length rest → pieces stop bytes ≡ front ∷ pieces stop (take (length rest - 1) (drop 1 rest))
piece_first stop bytes front [] e f le = absurd (omega (arith, le))
piece_first stop bytes front (c ∷ cs) e f le =
    let all : take (length (c ∷ cs) - 1) cs ≡ cs = take_all _ _ (omega arith) in
    pieces_is stop bytes ∙ rw (← f, ← e, all) refl

-- A text that is one piece, and is not empty, is one line.
pub line_last : (text front : List ℕ) → pieces feed text ≡ front ∷ [] → 1 ≤ length front → lines_of text ≡ front ∷ []
line_last text [] h some = absurd (omega (arith, some))
line_last text (c ∷ cs) h some = ap closed h

-- The first line of a text is its first piece.
pub line_first : (text front rest : List ℕ) → pieces feed text ≡ front ∷ pieces feed rest → lines_of text ≡ front ∷ lines_of rest
line_first text front rest h = ap closed h ∙ rw (pieces_is feed rest) refl
