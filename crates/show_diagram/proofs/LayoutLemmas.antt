-- The positions of bands, one below another.
use Rattle.std.proofs.Common.{ℕ, zero, suc, ◌+◌, ◌≡◌, List, refl, sym, ap, ◌∙◌, arith}
use Rattle.board.specs.Board.{Access}
use Rattle.show_diagram.specs.declared.stroke.Stroke.{Stroke}
use Rattle.show_diagram.specs.Layout.{height, top_of}

-- Proves that the first band begins at 80.
pub none_above : (n : ℕ) (strokes : List Stroke) (accesses : List Access) (r : ℕ) → r ≡ 0 → 80 ≡ top_of n strokes accesses r
unfolding top_of
none_above n strokes accesses zero e = refl
none_above n strokes accesses (suc k) e = absurd (omega arith)

-- Proves that the next band begins below the height of this one.
pub one_above : (n : ℕ) (strokes : List Stroke) (accesses : List Access) (r k : ℕ) → r ≡ suc k → top_of n strokes accesses r ≡ top_of n strokes accesses k + height n strokes accesses r
unfolding top_of
one_above n strokes accesses r k e = ap (λ (i : ℕ). top_of n strokes accesses i) e ∙ ap (λ (i : ℕ). top_of n strokes accesses k + height n strokes accesses i) (sym e)
