-- Defines what `tree` draws: a lieutenant's tree, by a message table or in a campaign.
use Rattle.std.specs.Prelude.{ℕ, ◌≡◌, Bool, true, false, List, [], ◌++◌, None, Result, Ok, Err, is_some}
use Rattle.std.specs.declared.alloc.AllocError.{AllocError}
use Rattle.cli_words.specs.declared.tasks.Drawing.{Drawing}
use Rattle.cli_words.specs.declared.tasks.Drawing.TheVariants as drawings
use Rattle.show_tree.specs.Drawn.{DrawsTable}
use Rattle.show_tree.specs.Shown.{ordered}
use Rattle.show_tree.specs.declared.form.TreeForm.{TreeForm}
use Rattle.show_tree.specs.declared.form.TreeForm.TheVariants.{Lines, Graph, Svg}
use Rattle.show_tree.specs.declared.node.Style.TheVariants.{Ascii, Boxes}
use Rattle.show_tree.specs.declared.node.View.{View}
use Rattle.show_table.specs.Retold.{table_of, traitors_of}
use Rattle.round.specs.Scenario.{Scenario}
use Rattle.scenario.specs.Reading.{Tells}
use Rattle.toml.specs.Errors.{IsMemory}
use Rattle.toml.specs.Parse.{parse_document}
use Rattle.toml.specs.declared.de.error.Error.{Error}
use Rattle.cli_tasks.specs.Schedules.{played}

-- Returns the form in which a tree is drawn: as lines with box-drawing or ASCII characters, as a graph, or in SVG.
abbrev pub form_of : Drawing → TreeForm
form_of drawings.Boxes = Lines Boxes
form_of drawings.Ascii = Lines Ascii
form_of drawings.Graph = Graph
form_of drawings.Svg = Svg

-- Checks whether the text is TOML. `tree` reads TOML as a campaign, and any other text as a message table.
abbrev pub is_toml : List ℕ → Bool
is_toml text = is_some (parse_document text)

-- States that the second result says whether a text is TOML, or that memory ran out. The first result is the parser's.
abbrev pub TellsWhetherToml : {T : Type 0} → Result T Error → Result Bool AllocError → Type 0
TellsWhetherToml (Ok table) (Ok is) = is ≡ true
TellsWhetherToml (Err error) (Ok is) = (is ≡ false) × ¬ IsMemory error
TellsWhetherToml (Err error) (Err _) = IsMemory error
TellsWhetherToml _ _ = ⊥

-- States that the picture draws what the general received as a tree, with the generals in `named` as traitors. The text
-- is a message table or, if the flag is set, an oral campaign, which is played by the empty schedule. For a campaign,
-- its own traitors are drawn as traitors too, and the picture knows the order that the commander should send.
abbrev pub IsTreeIn : Bool → List ℕ → List ℕ → View → TreeForm → ℕ → List ℕ → Type 0
IsTreeIn false text named view form general picture = DrawsTable text named view form general picture
IsTreeIn true text named view form general picture =
    (s : Scenario) × Tells text s
    × DrawsTable (table_of (played s [])) (traitors_of s ++ named) (ordered s.order view) form general picture

-- States that `first` is a message table or an oral campaign, and that `text` draws as a tree what the general
-- received, down to `depth` levels below the commander's.
abbrev pub Pictures : ℕ → List ℕ → Drawing → ℕ → Bool → List ℕ → List ℕ → Type 0
Pictures general named drawing depth folded first text =
    IsTreeIn (is_toml first) first named (record { depth = depth; folds = folded; order = None }) (form_of drawing)
    general text
