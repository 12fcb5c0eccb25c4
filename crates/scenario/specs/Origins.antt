-- The table of a scenario's text from which a table of the resolved text comes, and the table of a general (own). The
-- resolved text has the contents of files in place of their names, and a table for each traitor.
use Rattle.std.specs.Prelude.{ℕ, suc, ℤ, pos, ◌+◌, ◌-◌, ◌==◌, ◌||◌, Bool, false, nat_lt, if◌then◌else◌, Option, None, Some, codes, option_and_then}
use Rattle.toml.specs.Data.{Data, Items, no_items, item, Members, as_integer, as_table, get_member}
use Rattle.scenario.specs.ReferenceNames.{seats, traitors}

abbrev pub count : Items → ℕ
count no_items = 0
count (item d ds) = suc (count ds)

-- Returns how many tables of the resolved text come from an element of the list of traitors: one for each general who
-- shares this table, and otherwise one.
abbrev pub by_sharers : Option Items → ℕ
by_sharers None = 1
by_sharers (Some gs) = count gs

abbrev pub by_table : Option Members → ℕ
by_table None = 1
by_table (Some ms) = by_sharers (seats ms)

abbrev pub stands_for : Data → ℕ
stands_for d = by_table (as_table d)

-- Returns the index of the element from which table `number` of the resolved text comes. The first of these elements
-- has the index `at`. If there are too few tables, returns the index after the last element.
abbrev pub origin_from : ℕ → ℕ → Items → ℕ
origin_from at number no_items = at
origin_from at number (item d ds) =
    if nat_lt number (stands_for d) then at else origin_from (at + 1) (number - stands_for d) ds

abbrev pub origin_in : ℕ → Option Items → ℕ
origin_in number None = number
origin_in number (Some ds) = origin_from 0 number ds

-- Returns the index of the element of the list of traitors from which table `number` of the resolved text comes. If
-- there is no such list, returns `number`. `document` is the scenario's text, parsed, or `None` if it is not TOML.
abbrev pub origin : ℕ → Option Members → ℕ
origin number document = origin_in number (option_and_then traitors document)

-- Returns whether a value is the number of general `g`.
abbrev pub is_number : ℕ → Option ℤ → Bool
is_number g (Some (pos n)) = n == g
is_number g z = false

abbrev pub is_general : ℕ → Data → Bool
is_general g d = is_number g (as_integer d)

abbrev pub has_general : ℕ → Items → Bool
has_general g no_items = false
has_general g (item d ds) = is_general g d || has_general g ds

-- Returns whether a table's key `general` has the number of general `g`.
abbrev pub is_named : ℕ → Option Data → Bool
is_named g None = false
is_named g (Some d) = is_general g d

abbrev pub is_among : ℕ → Members → Option Items → Bool
is_among g ms None = is_named g (get_member (codes "general") ms)
is_among g ms (Some gs) = has_general g gs

abbrev pub is_seat : ℕ → Option Members → Bool
is_seat g None = false
is_seat g (Some ms) = is_among g ms (seats ms)

-- Returns the index of the first element that is a table for general `g`, or `None` if there is none. The first of
-- these elements has the index `at`.
abbrev pub seat_from : ℕ → ℕ → Items → Option ℕ
seat_from at g no_items = None
seat_from at g (item d ds) = if is_seat g (as_table d) then Some at else seat_from (at + 1) g ds

abbrev pub seat_in : ℕ → Option Items → Option ℕ
seat_in g None = None
seat_in g (Some ds) = seat_from 0 g ds

-- Returns the index, counted from 0, of the first table for general `g` in the list of traitors. `document` is the
-- scenario's text, parsed, or `None` if it is not TOML.
abbrev pub seat : ℕ → Option Members → Option ℕ
seat g document = seat_in g (option_and_then traitors document)
