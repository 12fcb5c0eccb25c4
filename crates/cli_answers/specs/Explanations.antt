-- A line that explains how a lieutenant decides as JSON members: a list of orders that he combines, or a line with a
-- reason after a colon (own).
use Rattle.std.specs.Prelude.{ℕ, ◌==◌, if◌then◌else◌, List, [], ◌∷◌, drop, take, Option, None, Some, option_and_then, option_map, bytes_eq, codes}
use Rattle.serde_json.specs.Data.{Data, array, object, Items, Members, no_members, put}
use Rattle.text.specs.Parts.{before, from, pieces}
use Rattle.text.specs.Stop.{colon, comma, space}
use Rattle.cli_answers.specs.declared.position.Held.{Held}
use Rattle.cli_answers.specs.declared.shape.Within.TheVariants.{General}
use Rattle.cli_answers.specs.Labels.{placed}
use Rattle.cli_answers.specs.Shapes.{received, entry, reasons}
use Rattle.cli_answers.specs.Shaped.{first_shaped, told_by}
use Rattle.cli_answers.specs.Texts.{behind_stop, called, with_text}
use Rattle.cli_answers.specs.Values.{Word, all, numbers_of}

-- ---- a line with a reason

-- Returns the text after a colon and a space at the start of a text, or None if it begins otherwise.
abbrev pub reason_in : List ℕ → Option (List ℕ)
reason_in text = if bytes_eq (take 2 text) (codes ": ") then Some (drop 2 text) else None

-- Returns the members of a line `FRONT: REASON`, if the front has one of the shapes of such lines. The reason is the
-- member `sentence`.
abbrev pub reasoned : Held → List ℕ → Option Members
reasoned h line =
    option_and_then (λ reason. option_map (λ ms. with_text (codes "sentence") reason ms)
    (first_shaped h reasons (pieces space (before colon line)))) (reason_in (from colon line))

-- ---- a list of orders

-- Returns the JSON object of a list's entry: a label, and the order that the lieutenant holds for it, or null.
abbrev pub entry_of : Word → Option Data
entry_of text = option_map object (told_by entry (pieces space text) no_members)

-- Adds the entries of a list as the member `orders`. The first one is what the lieutenant received.
abbrev pub with_entries : List Word → Members → Option Members
with_entries [] ms = None
with_entries (first ∷ others) ms =
    option_and_then (λ own. option_map (λ ds. put (codes "orders") (array ds) own) (all entry_of others))
    (told_by received (pieces space first) ms)

-- Adds the label of a list to an object.
abbrev pub labelled : Data → Members
labelled label = put (codes "label") label (called (codes "list"))

-- Returns the members of a line `LABEL: received ORDER, LABEL ORDER, ..: OUTCOME`: the list of orders that a lieutenant
-- combines at a label, and what results from it.
abbrev pub list_object : Held → List ℕ → Option Members
list_object h line =
    let entries = behind_stop colon line in
    option_map (λ ms. placed General h (with_text (codes "outcome") (drop 1 (behind_stop colon entries)) ms))
    (option_and_then (λ label. with_entries (pieces comma (before colon entries)) (labelled label))
    (numbers_of (before colon line)))
