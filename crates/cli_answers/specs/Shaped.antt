-- The members of a line that fits a shape: its words, each with its name (RFC 8259; own).
use Rattle.std.specs.Prelude.{ℕ, ◌==◌, Bool, true, false, if◌then◌else◌, List, [], ◌∷◌, length, Option, None, Some, option_and_then, option_map, bytes_eq, codes}
use Rattle.serde_json.specs.Data.{Data, boolean, Members, put}
use Rattle.cli_answers.specs.declared.position.Held.{Held}
use Rattle.cli_answers.specs.Labels.{placed}
use Rattle.cli_answers.specs.Shapes.{Row}
use Rattle.cli_answers.specs.Texts.{called}
use Rattle.cli_answers.specs.Values.{Word, places, told}

-- Adds a value to an object as the member `name`, or nothing if the name is a dash.
abbrev pub with_name : List ℕ → Data → Members → Members
with_name name d ms = if bytes_eq name (codes "-") then ms else put name d ms

-- Adds the values of a line's words to the members `ms`. The first argument is what each word may be, with its name.
-- The result is None if a word does not fit.
abbrev pub told_by : List (List ℕ × List ℕ) → List Word → Members → Option Members
told_by [] [] ms = Some ms
told_by [] (w ∷ ws) ms = None
told_by (p ∷ ps) [] ms = if bytes_eq p.0 (codes "*") then option_map (λ d. with_name p.1 d ms) (places []) else None
told_by (p ∷ ps) (w ∷ ws) ms =
    if bytes_eq p.0 (codes "*") then option_map (λ d. with_name p.1 d ms) (places (w ∷ ws))
    else option_and_then (λ d. told_by ps ws (with_name p.1 d ms)) (told p.0 w)

-- Returns the members if all words of a line fit, else None.
abbrev pub found : Bool → Members → Option Members
found true ms = Some ms
found false ms = None

-- Adds the mark of a shape to an object, a member that is true or false for all lines of the shape. Adds nothing if
-- the shape has no mark.
abbrev pub with_mark : Row → Members → Members
with_mark r ms = if length r.mark == 0 then ms else put r.mark (boolean r.holds) ms

-- Returns the members of a line's object if the line fits this shape (a pattern of words), else None.
unfoldable pub shaped : Row → List Word → Option Members
shaped r words = told_by r.parts words (with_mark r (called r.line))

-- Returns the first object if there is one, else the second.
abbrev pub first_by : Option Members → Option Members → Option Members
first_by None later = later
first_by (Some ms) later = Some ms

-- Returns the members of a line's object by the first of these shapes that fits, and where the line belongs. Returns
-- None if no shape fits.
abbrev pub first_shaped : Held → List Row → List Word → Option Members
first_shaped h [] words = None
first_shaped h (r ∷ rs) words =
    first_by (option_map (λ ms. placed r.within h ms) (shaped r words)) (first_shaped h rs words)
