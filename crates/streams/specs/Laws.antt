-- States which characters a text that is displayed can contain, and which texts are displayed unchanged.
use Rattle.std.specs.Prelude.{ℕ, ◌≡◌, Bool, true, false, not, List}
use Rattle.std.specs.List.{list_all}
use Rattle.std.specs.Str.{IsUtf8, chars}
use Rattle.streams.specs.declared.escaped.Kept.{Kept}
use Rattle.streams.specs.Escapes.{escaped, is_escaped}
use Rattle.streams.specs.Names.{has_control}

-- A text that is displayed contains no control character except those to keep. A text without control characters is
-- displayed unchanged.
pub record EscapedTextsArePlain : Type 0 where
  pub plain : (kept : Kept) (text : List ℕ) → IsUtf8 text →
      list_all (λ c. not (is_escaped kept c)) (chars (escaped kept text)) ≡ true
  pub same : (kept : Kept) (text : List ℕ) → IsUtf8 text → has_control text ≡ false → escaped kept text ≡ text
