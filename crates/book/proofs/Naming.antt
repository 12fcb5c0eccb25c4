-- How labels are written.
use Rattle.std.proofs.Common.{ℕ, ◌<◌, ◌≡◌, List, [], ◌∷◌, ◌++◌, length, sym, ap, ◌∙◌, arith, append_assoc, append-nil}
use Rattle.std.specs.Prelude.{codes}
use Rattle.std.specs.Fmt.{decimal}
use Rattle.std.specs.List.{flat_map}
use Rattle.std.proofs.lemmas.Grind.{flat_map-append}
use Rattle.book.specs.Explained.{dotted}

-- The label that consists of the commander.
pub dotted_one : (c : ℕ) → dotted (c ∷ []) ≡ decimal c
dotted_one c = append-nil (decimal c)

-- One more general.
pub dotted_more : (w : List ℕ) (j : ℕ) → 0 < length w → dotted (w ++ j ∷ []) ≡ dotted w ++ codes "." ++ decimal j
dotted_more [] j l = absurd (omega arith)
dotted_more (g ∷ gs) j l =
    ap (λ ys. decimal g ++ ys) (flat_map-append (λ h. codes "." ++ decimal h) gs (j ∷ []) ∙ ap (λ ys. flat_map (λ h. codes "." ++ decimal h) gs ++ ys) (append-nil (codes "." ++ decimal j)))
    ∙ (sym (append_assoc (decimal g) (flat_map (λ h. codes "." ++ decimal h) gs) (codes "." ++ decimal j)) ∙ sym (append_assoc (decimal g ++ flat_map (λ h. codes "." ++ decimal h) gs) (codes ".") (decimal j)))
