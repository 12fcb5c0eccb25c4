-- Texts that are cut at a stop, and members of a JSON object that are texts (RFC 8259; own).
use Rattle.std.specs.Prelude.{ℕ, List, drop, codes}
use Rattle.std.specs.Str.Lossy.{utf8_lossy}
use Rattle.serde_json.specs.Data.{string, Members, no_members, put}
use Rattle.text.specs.declared.stop.Stop.{Stop}
use Rattle.text.specs.Parts.{from}

-- Returns the bytes after the first stop, or none if there is no stop.
abbrev pub behind_stop : Stop → List ℕ → List ℕ
behind_stop stop bytes = drop 1 (from stop bytes)

-- Returns an object whose only member is `line`, the kind of line that it describes.
abbrev pub called : List ℕ → Members
called line = put (codes "line") (string line) no_members

-- Adds a text to an object as the member `name`.
abbrev pub with_text : List ℕ → List ℕ → Members → Members
with_text name t ms = put name (string (utf8_lossy t)) ms
