-- The accesses of one general in a list are compared with his transcript, one by one.
use Rattle.std.proofs.Common.{◌≡◌, ℕ, suc, ◌<◌, ◌≤◌, List, ◌∷◌, ◌++◌, length, get_or, take, drop, sym, ap, ◌∙◌, ◌==◌, eq-eqb, length-append, arith}
use Rattle.std.proofs.Math.Seq.{drop-cons, get_or-append_seam}
use Rattle.std.proofs.lemmas.List.{take-append-drop, length-take-le}
use Rattle.std.proofs.lemmas.List.Elements.{filter-append}
use Rattle.board.specs.Board.{Access}
use Rattle.world.specs.World.{accesses_of}

pub early : (g : ℕ) (piece served : List Access) (i next : ℕ) (a : Access) → i < length piece → a ≡ get_or piece i a → a.general ≡ g → next ≤ length served
    → accesses_of g (take i piece) ≡ take next served → accesses_of g piece ≡ served → (next < length served) × ((d : Access) → a ≡ get_or served next d)
early g piece served i next a lt is by le so_far same =
    let rest = drop (suc i) piece in
    let cut : piece ≡ take i piece ++ a ∷ rest = sym (take-append-drop i piece) ∙ ap (λ l. take i piece ++ l) (drop-cons piece i a lt ∙ ap (λ x. x ∷ rest) (sym is)) in
    let mine : accesses_of g (a ∷ rest) ≡ a ∷ accesses_of g rest = rw (eq-eqb a.general g by) in
    let e : served ≡ take next served ++ a ∷ accesses_of g rest =
    sym same ∙ ap (accesses_of g) cut ∙ filter-append (λ b. b.general == g) (take i piece) (a ∷ rest) ∙ (λ j. so_far j ++ mine j) in
    let n : length (take next served) ≡ next = length-take-le next served le in (
      omega (arith, ap length e, length-append (take next served) (a ∷ accesses_of g rest)),
      λ d. sym (ap (λ l. get_or l next d) e ∙ ap (λ k. get_or (take next served ++ a ∷ accesses_of g rest) k d) (sym n) ∙ get_or-append_seam (take next served) a (accesses_of g rest) d),
    )
