-- Defines the report of a text that is not TOML: the parser's message and its place (own).
use Rattle.std.specs.Prelude.{ℕ, ◌≡◌, ◌-◌, ◌≤◌, List, [], ◌++◌, None, Some, codes, length, take, unwrap_or}
use Rattle.std.specs.Str.{IsUtf8}
use Rattle.text.specs.Stop.{feed}
use Rattle.text.specs.Parts.{pieces}
use Rattle.toml.specs.Parse.{parse_document}
use Rattle.cli_report.specs.Assembly.{last_of}
use Rattle.cli_report.specs.Lines.{line_at, marked, trimmed}
use Rattle.cli_report.specs.Report.{Mark, report_text}
use Rattle.streams.specs.Escapes.{escaped}
use Rattle.streams.specs.declared.escaped.Kept.TheVariants.{Nothing}

-- Marks the bytes of a text from offset `start` to offset `end`, as far as they are in the line where they begin.
abbrev pub span_marked : List ℕ → ℕ → ℕ → Mark
span_marked text start end =
    let lines = pieces feed (take start text) in
    marked (length lines) (trimmed (unwrap_or (line_at text (length lines)) [])) (length (last_of lines)) (end - start)

-- Returns the error sentence with the parser's message, in which control characters are escaped.
abbrev pub unread_sentence : List ℕ → List ℕ
unread_sentence message = codes "the text is not TOML: " ++ escaped Nothing message

-- Returns the report of a parser's message about the bytes from offset `start` to offset `end` of a text.
abbrev pub span_told : List ℕ → List ℕ → List ℕ → ℕ → ℕ → List ℕ
span_told name text message start end =
    report_text name (unread_sentence message) (Some (span_marked text start end)) None

-- States that `told` is the report of some message about some bytes of the file's text. What the message says is not
-- specified.
pub record IsUnread (name text told : List ℕ) : Type 0 where
  pub message : List ℕ
  pub start : ℕ
  pub end : ℕ
  pub ordered : start ≤ end
  pub within : end ≤ length text
  pub is : told ≡ span_told name text message start end

-- States that, if the file's text is UTF-8 and not TOML, `told` is the report of a parser's message about it.
abbrev pub TellsToml : List ℕ → List ℕ → List ℕ → Type 0
TellsToml name text told = IsUtf8 text → parse_document text ≡ None → IsUnread name text told
