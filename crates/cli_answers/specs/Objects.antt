-- A line as a JSON object: its words, each with its name (RFC 8259; own).
use Rattle.std.specs.Prelude.{ℕ, List, Option, None, Some, codes}
use Rattle.std.specs.Str.Lossy.{utf8_lossy}
use Rattle.serde_json.specs.Data.{string, Members, put}
use Rattle.text.specs.Parts.{pieces}
use Rattle.text.specs.Stop.{space}
use Rattle.cli_answers.specs.declared.position.Held.{Held}
use Rattle.cli_answers.specs.Explanations.{list_object, reasoned}
use Rattle.cli_answers.specs.Instructions.{instruction_object}
use Rattle.cli_answers.specs.Shaped.{first_by, first_shaped}
use Rattle.cli_answers.specs.Shapes.{accesses, shapes}
use Rattle.cli_answers.specs.Texts.{called}

-- Returns the object of a line that fits no shape: its member `text` is the line.
abbrev pub unshaped : List ℕ → Members
unshaped line = put (codes "text") (string (utf8_lossy line)) (called (codes "text"))

-- Returns the object that was found, or `ms` if none was found.
abbrev pub or : Option Members → Members → Members
or None ms = ms
or (Some found) ms = found

-- Returns the members of a line of an explanation or a trace: a line with a reason, a list of orders, or a line about an
-- instruction. Returns None for any other line.
unfoldable pub explanation_object : Held → List ℕ → Option Members
explanation_object h line = first_by (reasoned h line) (first_by (list_object h line) (instruction_object line))

-- Returns the members of a line that fits a shape or is of an explanation or a trace.
abbrev pub other_object : Held → List ℕ → Option Members
other_object h line = first_by (first_shaped h shapes (pieces space line)) (explanation_object h line)

-- Returns the JSON object of a line: of an access, of another shape that fits, of an explanation or a trace, or else of
-- the line as text.
unfoldable pub line_object : Held → List ℕ → Members
line_object h line = or (first_by (first_shaped h accesses (pieces space line)) (other_object h line)) (unshaped line)
