-- The accesses of one general.
use Rattle.std.proofs.Common.{◌≡◌, ◌≢◌, ℕ, List, [], ◌∷◌, ◌++◌, true, false, refl, ap, ◌∙◌, ⊎_elim, append-nil}
use Rattle.std.specs.Prelude.{◌==◌}
use Rattle.std.proofs.lemmas.Bool.{eq-eqb, ne_eqb}
use Rattle.std.proofs.lemmas.Bool.Decides.{eqb_tells}
use Rattle.board.specs.Board.{Access}
use Rattle.world.specs.World.{accesses_of}

pub of_snoc : (g : ℕ) (piece : List Access) (a : Access) → accesses_of g (piece ++ a ∷ []) ≡ accesses_of g piece ++ accesses_of g (a ∷ [])
of_snoc g [] a = refl
of_snoc g (b ∷ piece) a = ⊎_elim (λ (x : (b.general == g ≡ true) × (b.general ≡ g)). rw (x.0, of_snoc g piece a)) (λ (x : (b.general == g ≡ false) × (b.general ≢ g)). rw (x.0, of_snoc g piece a)) (eqb_tells b.general g)

pub of_mine : (g : ℕ) (piece : List Access) (a : Access) → a.general ≡ g → accesses_of g (piece ++ a ∷ []) ≡ accesses_of g piece ++ a ∷ []
of_mine g piece a e = of_snoc g piece a ∙ ap (λ l. accesses_of g piece ++ l) (rw (eq-eqb a.general g e) refl)

pub of_other : (g : ℕ) (piece : List Access) (a : Access) → a.general ≢ g → accesses_of g (piece ++ a ∷ []) ≡ accesses_of g piece
of_other g piece a e = of_snoc g piece a ∙ ap (λ l. accesses_of g piece ++ l) (rw (ne_eqb a.general g e) refl) ∙ append-nil (accesses_of g piece)
