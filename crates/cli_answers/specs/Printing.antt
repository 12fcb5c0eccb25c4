-- What is printed of an answer, or of the reason why a task was not done: as text, as JSON, or as one line (own).
use Rattle.std.specs.Prelude.{ℕ, ◌++◌, ◌||◌, Bool, true, false, List, [], ◌∷◌, Option, Some, codes, find, option_map, take, unwrap_or}
use Rattle.std.specs.Str.{bytes_eq}
use Rattle.std.specs.String.{string_bytes}
use Rattle.cli_words.specs.Tasks.{file_of}
use Rattle.cli_words.specs.declared.tasks.TaskRequest.{TaskRequest}
use Rattle.cli_words.specs.declared.tasks.Task.{Task}
use Rattle.cli_words.specs.declared.tasks.Task.TheVariants.{Audit}
use Rattle.label.specs.declared.shape.Shape.{Shape}
use Rattle.cli_answers.specs.Labels.{at_first}
use Rattle.cli_answers.specs.Lines.{json_text, object_line, with_file}
use Rattle.cli_answers.specs.Objects.{line_object}
use Rattle.cli_answers.specs.Refusals.{refusal_object}
use Rattle.streams.specs.Names.{shown}
use Rattle.text.specs.Parts.{before, lines_of}
use Rattle.text.specs.Stop.{feed}

-- Returns whether a request asks for JSON or for one line.
abbrev pub is_shaped : TaskRequest → Bool
is_shaped request = request.json || request.verdicts

-- Returns the name of the file that a task is about: the chronicle for an audit, and otherwise the only file or the
-- first one. It is empty if the task has no file.
abbrev pub judged : Task → List ℕ
judged (Audit scenario chronicle explained) = string_bytes chronicle
judged task = unwrap_or (file_of task) []

-- Returns whether the line is a verdict on a campaign.
abbrev pub is_verdict : List ℕ → Bool
is_verdict line = bytes_eq (take 8 line) (codes "verdict ")

-- Returns the line that says how a task ended: the first verdict on a campaign or, if there is none, the first line.
abbrev pub outcome : List ℕ → List ℕ
outcome text = unwrap_or (find is_verdict (lines_of text)) (before feed text)

-- Returns a line with its file's name before it, or None if it is not specified how the name is shown.
abbrev pub named_line : List ℕ → List ℕ → Option (List ℕ)
named_line name line = option_map (λ told. told ++ codes ": " ++ line ++ 10 ∷ []) (shown name)

-- Returns the text of an answer as it is, as JSON Lines, as one line, or as one line of JSON. For the answer of a
-- trial, `place` is the general's relay and round.
abbrev pub answer_by : Bool → Bool → List ℕ → Option Shape → List ℕ → Option (List ℕ)
answer_by false false name place text = Some text
answer_by true false name place text = Some (json_text place text)
answer_by false true name place text = named_line name (outcome text)
answer_by true true name place text = Some (object_line (with_file name (line_object at_first (outcome text))))

-- Returns the text of an answer in the form that the request asks for.
abbrev pub answer_as : TaskRequest → Option Shape → List ℕ → Option (List ℕ)
answer_as request place text = answer_by request.json request.verdicts (judged request.task) place text

-- Returns the text that says why a task was not done: as it is, as a JSON object, as one line, or as a JSON object
-- with the file's name.
abbrev pub refusal_by : Bool → Bool → List ℕ → List ℕ → Option (List ℕ)
refusal_by false false name text = Some text
refusal_by true false name text = Some (object_line (refusal_object text))
refusal_by false true name text = named_line name (before feed text)
refusal_by true true name text = Some (object_line (with_file name (refusal_object text)))

-- Returns the text that says why a task was not done, in the form that the request asks for.
abbrev pub refusal_as : TaskRequest → List ℕ → Option (List ℕ)
refusal_as request text = refusal_by request.json request.verdicts (judged request.task) text
