-- The program of a general in a scenario that may have faults (own).
use Rattle.std.specs.Prelude.{ℕ, ℤ, pos, ◌==◌, Bool, false, if◌then◌else◌, List, Option, None, Some, codes, option_and_then}
use Rattle.toml.specs.Data.{Data, Items, Members, no_items, item, as_array, as_integer, as_str, as_table, get_member}
use Rattle.scenario.specs.Tables.{Source, Assembly, Hex}

abbrev pub is_number : ℕ → ℤ → Bool
is_number g (pos n) = n == g
is_number g z = false

abbrev pub is_integer_of : ℕ → Option ℤ → Bool
is_integer_of g None = false
is_integer_of g (Some z) = is_number g z

-- Returns whether the value is the number of general `g`. It is not if there is no value.
abbrev pub is_general : ℕ → Option Data → Bool
is_general g None = false
is_general g (Some d) = is_integer_of g (as_integer d)

-- Returns the value as a text, or `None` if it is not a text or there is no value.
abbrev pub text_in : Option Data → Option (List ℕ)
text_in None = None
text_in (Some d) = as_str d

-- Returns the first text as assembly if it is given, and otherwise the second as bytecode in hex. Returns `None` if
-- neither is given.
abbrev pub source_by_texts : Option (List ℕ) → Option (List ℕ) → Option Source
source_by_texts (Some text) code = Some (Assembly text)
source_by_texts None (Some text) = Some (Hex text)
source_by_texts None None = None

-- Returns the program that a traitor's table contains: the text at `asm`, or else the text at `code`. Returns `None` if
-- it has neither.
abbrev pub source_in : Members → Option Source
source_in ms = source_by_texts (text_in (get_member (codes "asm") ms)) (text_in (get_member (codes "code") ms))

-- Returns the table if its key `general` has the number of general `g`, and otherwise `None`.
abbrev pub if_general : ℕ → Option Members → Option Members
if_general g None = None
if_general g (Some ms) = if is_general g (get_member (codes "general") ms) then Some ms else None

-- Returns an element of the list of traitors as a table, or `None` if it is not a table whose key `general` has the
-- number of general `g`.
abbrev pub members_of : ℕ → Data → Option Members
members_of g d = if_general g (as_table d)

abbrev pub first_source : Option Members → Option Source → Option Source
first_source None rest = rest
first_source (Some ms) rest = source_in ms

-- Returns the program in the first table for general `g`, or `None` if there is no such table or it contains no
-- program.
abbrev pub source_among : ℕ → Items → Option Source
source_among g no_items = None
source_among g (item d ds) = first_source (members_of g d) (source_among g ds)

abbrev pub source_among_in : ℕ → Option Items → Option Source
source_among_in g None = None
source_among_in g (Some ds) = source_among g ds

-- Returns the program of general `g` in a scenario, which is in the first traitor's table with his number. Returns
-- `None` if he has no table, or if it contains no program.
abbrev pub source_by : ℕ → Members → Option Source
source_by g ms = source_among_in g (option_and_then as_array (get_member (codes "traitor") ms))
