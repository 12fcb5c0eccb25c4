-- Lists of accesses whose replies fit.
use Rattle.std.proofs.Common.{◌≡◌, ℕ, zero, suc, List, [], ◌∷◌, ◌++◌, drop, Bool, true, false, cond}
use Rattle.std.specs.Prelude.{filter}
use Rattle.semantics.specs.Call.{fits}
use Rattle.board.specs.Board.{Access}
use Rattle.round.specs.Runs.{AreFitting}

-- One more access is appended.
pub fitting_more : (t : List Access) (x : Access) → AreFitting t → fits x.request x.reply ≡ true → AreFitting (t ++ x ∷ [])
fitting_more [] x h fit = (fit, tt)
fitting_more (y ∷ t) x h fit = (h.0, fitting_more t x h.1 fit)

-- The accesses from an index on.
pub fitting_from : (n : ℕ) (t : List Access) → AreFitting t → AreFitting (drop n t)
fitting_from zero t h = h
fitting_from (suc n) [] h = h
fitting_from (suc n) (y ∷ t) h = fitting_from n t h.1

-- Those accesses that pass a test.
pub fitting_among : (is : Access → Bool) (t : List Access) → AreFitting t → AreFitting (filter is t)
fitting_among is [] h = tt
fitting_among is (y ∷ t) h = by (is y) (fitting_among is t h.1)
  where
    by : (b : Bool) → AreFitting (filter is t) → AreFitting (cond b (y ∷ filter is t) (filter is t))
    by true rest = (h.0, rest)
    by false rest = rest
