-- Limits on the length of a page: the room of each section in bytes, and the text that replaces a section for which
-- there is no room.
use Rattle.std.specs.Prelude.{ℕ, ◌+◌, ◌/◌, nat_lt, if◌then◌else◌, List, length, ◌++◌, codes}
use Rattle.std.specs.Fmt.{decimal}
use Rattle.html.specs.Page.{lines, paragraph}
use Rattle.html.specs.Sections.{Section}

-- The greatest length of a page in bytes: the room of its sections, their headings, and the text before and after the
-- sections.
abbrev pub longest_page : ℕ
longest_page = 2000000

-- How many bytes of HTML all sections may have together, which is the sum of their rooms. A section may use what other
-- sections leave of their rooms.
abbrev pub room_for_sections : ℕ
room_for_sections = 1987000

-- How many bytes of HTML the scenario's section may always have. The definitions after it are for the other sections.
abbrev pub room_for_scenario : ℕ
room_for_scenario = 151000

-- How many bytes of HTML the story at the head of the scenario may have, if there is no room for the whole scenario.
abbrev pub room_for_story : ℕ
room_for_story = 20000

abbrev pub room_for_schedule : ℕ
room_for_schedule = 31000

abbrev pub room_for_programs : ℕ
room_for_programs = 150000

abbrev pub room_for_picture : ℕ
room_for_picture = 600000

abbrev pub room_for_lieutenants : ℕ
room_for_lieutenants = 525000

abbrev pub room_for_accesses : ℕ
room_for_accesses = 130000

abbrev pub room_for_chronicle : ℕ
room_for_chronicle = 400000

-- Returns how many bytes of HTML each program may have, if there is no room for all of them in full: 145,000, divided
-- by `generals + 1`.
abbrev pub share : ℕ → ℕ
share generals = 145000 / (generals + 1)

-- The greatest number of units of a program that a page explains.
abbrev pub room_for_units : ℕ
room_for_units = 256

-- The greatest width of a diagram that is printed on a sheet like those of the text, in units of SVG. It does not include
-- the margins, which are 16 units in all.
abbrev pub small_sheet : ℕ
small_sheet = 1400

-- The greatest width of a diagram that is printed on one sheet of A3, likewise.
abbrev pub large_sheet : ℕ
large_sheet = 2400

-- Writes the sentence that a part of a page is longer than `room` bytes. It ends with `who`, the words that say where
-- to find this part.
unfoldable pub over_words : ℕ → List ℕ → List ℕ
over_words room who =
    codes "This part is longer than its share, " ++ (decimal room ++ (codes " bytes of HTML: " ++ who))

abbrev pub over : ℕ → List ℕ → List ℕ
over room who = paragraph (over_words room who)

-- Returns a section with this title, text and room. If there is no room for the text, a paragraph that says so replaces
-- it.
abbrev pub roomed : List ℕ → ℕ → List ℕ → List ℕ → Section
roomed title room who told = record { title = title; told = told; room = room; instead = over room who }

-- Writes `told`, a part of a section, if it has at most `room` bytes, and otherwise a paragraph that says where to find
-- it.
abbrev pub fitted : ℕ → List ℕ → List ℕ → List ℕ
fitted room who told = if nat_lt room (length told) then over room who else told

-- Writes the lines of a text. If the text is longer than all sections together may be, writes a paragraph in its place
-- that says where to find it.
abbrev pub lines_told : ℕ → List ℕ → List ℕ → List ℕ
lines_told room who text = if nat_lt room_for_sections (length text) then over room who else lines text

-- Writes the sentence that a program has `count` units, too many to be explained on a page. It ends with `who`, the
-- words that say where to find the explanation.
unfoldable pub units_words : ℕ → List ℕ → List ℕ
units_words count who = decimal count ++ (codes " units are more than the 256 that a page explains: " ++ who)
