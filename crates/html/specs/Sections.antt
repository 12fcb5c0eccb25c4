-- Defines the sections of an HTML page, and which of them are written in full. Each section has a room of its own, in
-- bytes. A longer section is written in full only if the other sections leave enough of the page's room.
use Rattle.std.specs.Prelude.{ℕ, ◌+◌, ◌-◌, nat_le, if◌then◌else◌, List, [], ◌∷◌, ◌++◌, length}
use Rattle.html.specs.Page.{heading}

-- A section: its title, its text, its own room in bytes, and the replacement for a text that does not fit.
pub record Section : Type 0 where
  pub title : List ℕ
  pub told : List ℕ
  pub room : ℕ
  pub instead : List ℕ

-- Returns the text for which the section's room is reserved: its own text if this fits into the room, and otherwise its
-- replacement.
abbrev pub sure : Section → List ℕ
sure s = if nat_le (length s.told) s.room then s.told else s.instead

-- Returns how many bytes more than the reserved ones a section takes if it is written in full.
abbrev pub more : Section → ℕ
more s = length s.told - length (sure s)

-- Returns how many bytes of the room remain after the bytes that are reserved for the sections, or 0 if there is too
-- little.
abbrev pub left_by : ℕ → List Section → ℕ
left_by room [] = room
left_by room (s ∷ ss) = left_by (room - length (sure s)) ss

-- Returns a section as it is written: its heading and its text. A section without text has no heading.
abbrev pub section : List ℕ → List ℕ → List ℕ
section title [] = []
section title (c ∷ cs) = heading title ++ c ∷ cs

-- Returns for each section its text or its replacement. `left` bytes remain for texts that are longer than the bytes
-- reserved for them. The sections get these bytes in order, as long as they suffice.
abbrev pub standing : ℕ → List Section → List (List ℕ)
standing left [] = []
standing left (s ∷ ss) =
    if nat_le (more s) left
    then s.told ∷ standing (left - more s) ss
    else s.instead ∷ standing left ss

-- Returns for each section its text or its replacement, if all sections together have `room` bytes.
abbrev pub standing_in : ℕ → List Section → List (List ℕ)
standing_in room ss = standing (left_by room ss) ss

-- Returns the sections with their headings, where `texts` has what is written for each.
abbrev pub titled : List Section → List (List ℕ) → List ℕ
titled [] texts = []
titled (s ∷ ss) [] = []
titled (s ∷ ss) (text ∷ texts) = section s.title text ++ titled ss texts

-- Returns the sections with their headings. For the first definition `left` bytes remain for texts that are longer than
-- the bytes reserved for them. For the second, all sections together have `room` bytes.
abbrev pub fitted_sections : ℕ → List Section → List ℕ
fitted_sections left ss = titled ss (standing left ss)

abbrev pub sections_in : ℕ → List Section → List ℕ
sections_in room ss = titled ss (standing_in room ss)

-- Returns all sections in full with their headings.
abbrev pub all_sections : List Section → List ℕ
all_sections [] = []
all_sections (s ∷ ss) = section s.title s.told ++ all_sections ss

-- ---- how long they are

abbrev pub rooms : List Section → ℕ
rooms [] = 0
rooms (s ∷ ss) = s.room + rooms ss

abbrev pub told_bytes : List Section → ℕ
told_bytes [] = 0
told_bytes (s ∷ ss) = length s.told + told_bytes ss

abbrev pub bytes_of : List (List ℕ) → ℕ
bytes_of [] = 0
bytes_of (text ∷ texts) = length text + bytes_of texts

abbrev pub heading_bytes : List Section → ℕ
heading_bytes [] = 0
heading_bytes (s ∷ ss) = length (heading s.title) + heading_bytes ss
