-- States the laws about escaped text and XML elements. Each is the contract of a function of this crate.
use Rattle.std.specs.Prelude.{ℕ, ◌≡◌, ◌==◌, Bool, true, ◌&&◌, not, List, map, None, Some}
use Rattle.std.specs.List.{list_all}
use Rattle.html.specs.Escaped.{escaped, is_character, shown}
use Rattle.html.specs.Reading.{read}
use Rattle.html.specs.Grammar.{IsContent, IsElement, IsTag, IsText}
use Rattle.html.specs.Tags.{element}

-- States that an XML reader reads an escaped text as the original text, except that characters that XML forbids have
-- become U+FFFD. If there are no such characters, it reads the original text.
pub record EscapesAreReadBack : Type 0 where
  pub shown : (cs : List ℕ) → read None (escaped cs) ≡ Some (map shown cs)
  pub same : (cs : List ℕ) → list_all is_character cs ≡ true → read None (escaped cs) ≡ Some cs

-- Checks whether the character is none of `<`, `>`, `"` and `'`, and XML allows it in a document.
abbrev pub is_plain : ℕ → Bool
is_plain c = is_character c && not (c == 60) && not (c == 62) && not (c == 34) && not (c == 39)

-- States that escaped text contains no `<`, `>` or quotation mark, and can be written between tags and in quotation
-- marks.
pub record EscapesArePlain : Type 0 where
  pub plain : (cs : List ℕ) → list_all is_plain (escaped cs) ≡ true
  pub text : (cs : List ℕ) → IsText (escaped cs)

-- States that a name, attributes and content, each well-formed, form an XML element, and that an element is well-formed
-- content of another one.
pub record ElementsAreElements : Type 0 where
  pub element : (name attributes content : List ℕ) → IsTag name attributes → IsContent content →
      IsElement (element name attributes content)
  pub content : (text : List ℕ) → IsElement text → IsContent text
