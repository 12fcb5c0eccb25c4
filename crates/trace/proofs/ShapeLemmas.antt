-- The form of the lines of a text is checked one after another.
use Rattle.std.proofs.Common.{◌≡◌, ℕ, suc, true, false, List, [], ◌∷◌, Option, Some, refl, sym, ap, ◌∙◌}
use Rattle.std.specs.Prelude.{if◌then◌else◌}
use Rattle.text.specs.Stop.{feed, space}
use Rattle.text.specs.Parts.{pieces}
use Rattle.text.proofs.PartsLemmas.{pieces_is}
use Rattle.trace.specs.Text.{Word}
use Rattle.std.specs.List.{list_all}
use Rattle.trace.specs.Shapes.{are_places, is_nothing_left, is_place, is_shaped, unshaped_from}

-- A line with its LF is checked for its form.
line_by : (number : ℕ) (line next : List ℕ) (lines : List (List ℕ)) → unshaped_from number (line ∷ next ∷ lines) ≡ (if is_shaped line then unshaped_from (suc number) (next ∷ lines) else Some number)
line_by number line next lines = refl

by_shape : (number : ℕ) (line rest : List ℕ) → unshaped_from number (line ∷ pieces feed rest) ≡ (if is_shaped line then unshaped_from (suc number) (pieces feed rest) else Some number)
by_shape number line rest = rw (pieces_is feed rest) refl

pub shaped_line : (number : ℕ) (line rest : List ℕ) → is_shaped line ≡ true → unshaped_from number (line ∷ pieces feed rest) ≡ unshaped_from (suc number) (pieces feed rest)
shaped_line number line rest h = let e = by_shape number line rest in rw (e, h) refl

pub unshaped_line : (number : ℕ) (line rest : List ℕ) → is_shaped line ≡ false → Some number ≡ unshaped_from number (line ∷ pieces feed rest)
unshaped_line number line rest h = let e = by_shape number line rest in rw (e, h) refl

some_left : (rest : List ℕ) → is_nothing_left (Some (pieces space rest)) ≡ false
some_left rest = rw (pieces_is space rest) refl

-- If words remain, the line does not end here.
pub more_left : (rest : List ℕ) (o : Option (List Word)) → Some (pieces space rest) ≡ o → false ≡ is_nothing_left o
more_left rest o h = sym (some_left rest) ∙ ap is_nothing_left h

-- A row has orders for its receivers.
pub some_places : (rest : List ℕ) (o : Option (List Word)) → Some (pieces space rest) ≡ o → list_all is_place (pieces space rest) ≡ are_places o
some_places rest o h = places (pieces_is space rest) ∙ ap are_places h
  where
    places : {w : Word} {ws : List Word} → pieces space rest ≡ w ∷ ws → list_all is_place (pieces space rest) ≡ are_places (Some (pieces space rest))
    places e = rw e refl

pub no_places : (o : Option (List Word)) → Some [] ≡ o → false ≡ are_places o
no_places o h = ap are_places h
