-- States the laws about HTML pages. Each is the contract of a function of this crate.
use Rattle.std.specs.Prelude.{ℕ, ◌+◌, ◌≤◌, ◌<◌, ◌≡◌, ◌⊎◌, Bool, true, not, List, ◌∷◌, ◌++◌, codes, length}
use Rattle.std.specs.List.{All, list_all}
use Rattle.html.specs.Grammar.{IsContent, IsElement, IsText}
use Rattle.html.specs.Page.{begun_lines, cell, fold, head, heading, item, lines, list, page, paragraph, picture, row, shown, table, text_item}
use Rattle.html.specs.Sections.{Section, all_sections, bytes_of, heading_bytes, rooms, sections_in, standing_in, told_bytes}
use Rattle.html.specs.Visible.{is_hidden, visible}
use Rattle.html.specs.declared.sheet.Sheet.{Sheet}

-- States that text which a page shows contains no `<`, `>` or `"`, and no `&` except at the start of a reference.
abbrev pub TextsAreText : Type 0
TextsAreText = (text : List ℕ) → IsText (shown text)

-- States that visible text contains no hidden character, as specs/Visible defines them. A text without hidden
-- characters is shown unchanged.
pub record TextsAreVisible : Type 0 where
  pub seen : (cs : List ℕ) → list_all (λ c. not (is_hidden c)) (visible cs) ≡ true
  pub same : (cs : List ℕ) → list_all (λ c. not (is_hidden c)) cs ≡ true → visible cs ≡ cs

-- States that each part of a page is well-formed XML content if what it contains is. Folds, lists, list items, tables,
-- rows and pictures contain other content.
pub record PartsAreContent : Type 0 where
  pub heading : (text : List ℕ) → IsContent (heading text)
  pub paragraph : (text : List ℕ) → IsContent (paragraph text)
  pub lines : (text : List ℕ) → IsContent (lines text)
  pub begun_lines : (text : List ℕ) → IsContent (begun_lines text)
  pub fold : (summary parts : List ℕ) → IsContent parts → IsContent (fold summary parts)
  pub list : (items : List ℕ) → IsContent items → IsContent (list items)
  pub text_item : (text : List ℕ) → IsContent (text_item text)
  pub item : (parts : List ℕ) → IsContent parts → IsContent (item parts)
  pub table : (rows : List ℕ) → IsContent rows → IsContent (table rows)
  pub row : (cells : List ℕ) → IsContent cells → IsContent (row cells)
  pub head : (text : List ℕ) → IsContent (head text)
  pub cell : (text : List ℕ) → IsContent (cell text)
  pub picture : (sheet : Sheet) (name svg : List ℕ) → IsContent svg → IsContent (picture sheet name svg)

-- States that a page whose parts are well-formed consists of the document type line, one XML element and a line feed.
abbrev pub PagesAreElements : Type 0
PagesAreElements = (title parts : List ℕ) → IsContent parts →
    (text : List ℕ) × IsElement text × (page title parts ≡ codes "<!DOCTYPE html>\n" ++ text ++ codes "\n")

-- States that `part` occurs in `whole` as a contiguous part of it.
abbrev pub StandsIn : List ℕ → List ℕ → Type 0
StandsIn part whole = (before : List ℕ) × (after : List ℕ) × (whole ≡ before ++ part ++ after)

-- States that the replacement of a section is not longer than the section's own room.
abbrev pub IsRoomy : Section → Type 0
IsRoomy s = length s.instead ≤ s.room

-- States that the text of a section is well-formed content, and so is its replacement.
abbrev pub IsFilled : Section → Type 0
IsFilled s = IsContent s.told × IsContent s.instead

-- States that `own`, which is written for a section, is its full text. It may be the replacement only if the full text
-- is longer than the room that the texts in `ahead` and `behind`, written for the other sections, leave.
abbrev pub IsToldOrTooLong : ℕ → Section → List (List ℕ) → List ℕ → List (List ℕ) → Type 0
IsToldOrTooLong room s ahead own behind =
    (own ≡ s.told) ⊎ ((own ≡ s.instead) × (room < bytes_of ahead + length s.told + bytes_of behind))

-- States how sections share the room of a page, which is a number of bytes. Each replacement must fit into its
-- section's own room. If these rooms together fit into the page's room, the sections take at most the page's room and
-- the bytes of their headings. A section that fits into its own room is written in full. All sections are if the page
-- has room for all. A section is replaced only if its text is longer than what the others leave. Either its text or its
-- replacement is in the result, which is well-formed content if each section is.
pub record SectionsAreFitted : Type 0 where
  pub short :
      (room : ℕ) (ss : List Section) → rooms ss ≤ room → All IsRoomy ss
      → length (sections_in room ss) ≤ room + heading_bytes ss
  pub own :
      (room : ℕ) (before : List Section) (s : Section) (after : List Section)
      → length s.told ≤ s.room → StandsIn s.told (sections_in room (before ++ s ∷ after))
  pub all :
      (room : ℕ) (ss : List Section) → told_bytes ss ≤ room → All IsRoomy ss → sections_in room ss ≡ all_sections ss
  pub left_out :
      (room : ℕ) (before : List Section) (s : Section) (after : List Section) → All IsRoomy (before ++ s ∷ after)
      → (ahead : List (List ℕ)) × (own : List ℕ) × (behind : List (List ℕ)) × (length ahead ≡ length before)
      × (standing_in room (before ++ s ∷ after) ≡ ahead ++ own ∷ behind) × IsToldOrTooLong room s ahead own behind
  pub stands :
      (room : ℕ) (before : List Section) (s : Section) (after : List Section)
      → StandsIn s.told (sections_in room (before ++ s ∷ after))
      ⊎ StandsIn s.instead (sections_in room (before ++ s ∷ after))
  pub content : (room : ℕ) (ss : List Section) → All IsFilled ss → IsContent (sections_in room ss)
