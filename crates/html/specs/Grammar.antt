-- Defines the grammar of XML 1.0, as far as this crate writes it. The numbers in parentheses are those of its
-- productions.
use Rattle.std.specs.Prelude.{ℕ, ◌≡◌, ◌≢◌, ◌==◌, Bool, true, false, ◌&&◌, ◌||◌, List, [], ◌∷◌, ◌++◌, bytes_eq, IsSome}
use Rattle.std.specs.List.{list_all, list_any}
use Rattle.html.specs.Escaped.{is_within, is_character}
use Rattle.html.specs.Reading.{meaning}
use Rattle.html.specs.Tags.{attribute, element, empty}

-- ASCII letters, and the characters that a name may have after its first letter.
abbrev pub is_letter : ℕ → Bool
is_letter c = is_within 65 90 c || is_within 97 122 c

abbrev pub is_name_character : ℕ → Bool
is_name_character c = is_letter c || is_within 48 57 c || c == 45 || c == 46 || c == 95

-- Checks whether a text is a name (5): a letter, followed by characters of names.
abbrev pub is_name : List ℕ → Bool
is_name [] = false
is_name (c ∷ cs) = is_letter c && list_all is_name_character cs

-- Text without tags, which can be written between tags and in quotation marks (10, 14). It consists of characters that
-- are not markup, and of references such as `&lt;` (67).
pub data IsText : List ℕ → Type 0 where
  no_text : IsText []
  character : (c : ℕ) (rest : List ℕ) → is_character c ≡ true → c ≢ 38 → c ≢ 60 → c ≢ 62 → c ≢ 34 → IsText rest →
      IsText (c ∷ rest)
  referred : (name rest : List ℕ) → IsSome (meaning name) → IsText rest → IsText (38 ∷ (name ++ 59 ∷ rest))

-- Attributes (41), each after a space, and the list of their names. No name occurs twice.
pub data AreAttributes : List (List ℕ) → List ℕ → Type 0 where
  no_attributes : AreAttributes [] []
  attributed : (name value rest : List ℕ) (names : List (List ℕ)) → is_name name ≡ true → IsText value →
      list_any (bytes_eq name) names ≡ false
      → AreAttributes names rest → AreAttributes (name ∷ names) (attribute name value ++ rest)

-- The name and the attributes of a tag.
pub record IsTag (name attributes : List ℕ) : Type 0 where
  pub named : is_name name ≡ true
  pub names : List (List ℕ)
  pub attributed_so : AreAttributes names attributes

-- Content, which is what an element can have between its tags (43): text and elements (39). An element is content
-- between two tags of the same name, or a single tag (44).
pub data IsContent : List ℕ → Type 0 where
  text : (cs : List ℕ) → IsText cs → IsContent cs
  nested : (name attributes content : List ℕ) → IsTag name attributes → IsContent content →
      IsContent (element name attributes content)
  alone : (name attributes : List ℕ) → IsTag name attributes → IsContent (empty name attributes)
  joined : (first rest : List ℕ) → IsContent first → IsContent rest → IsContent (first ++ rest)

-- An element that is content between two tags of the same name (39).
pub record IsElement (text : List ℕ) : Type 0 where
  pub name : List ℕ
  pub attributes : List ℕ
  pub content : List ℕ
  pub tag : IsTag name attributes
  pub inside : IsContent content
  pub whole : text ≡ element name attributes content
