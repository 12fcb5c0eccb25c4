-- The resolved text of a scenario, which has programs in place of the names of their files, and a table for each
-- traitor (own).
use Rattle.std.specs.Prelude.{◌≡◌, ◌≤◌, ℕ, Bool, true, false, ◌||◌, ◌&&◌, cond, if◌then◌else◌, List, Option, None, Some, is_some, option_map, option_and_then, codes, bytes_eq, nat_le}
use Rattle.toml.specs.Data.{Data, string, array, table, Items, no_items, item, Members, no_members, member, as_table, get_member, members_depth, members_have_valid_dates}
use Rattle.toml.specs.Parse.{parse_document}
use Rattle.scenario.specs.declared.reference_key.ReferenceKey.{ReferenceKey}
use Rattle.scenario.specs.declared.reference_key.ReferenceKey.TheVariants.{Object}
use Rattle.scenario.specs.ReferenceNames.{File, function_at, key_of, name_at, place_of, seats, text_named, traitors}
use Rattle.scenario.specs.Members.{join, put}
use Rattle.scenario.specs.Origins.{count}

-- Returns the kind of the file that a table names by the key `k`, and the text that replaces its name. Returns `None`
-- if the key names no file, or if the file was not read.
abbrev pub program : List File → Members → List ℕ → Option (ReferenceKey × List ℕ)
program files ms k =
    option_and_then (λ key. option_and_then
    (λ name. option_map (λ t. (key, t)) (text_named files key name (function_at key ms))) (name_at key ms))
    (key_of k)

-- Returns whether the key is `entry` and names a function in an object file that was read. The code of this function
-- replaces both keys, `elf` and `entry`.
abbrev pub is_spent : List File → Members → List ℕ → Bool
is_spent files ms k =
    bytes_eq k (codes "entry") && (is_some (function_at Object ms) && is_some (program files ms (codes "elf")))

-- Returns the members with an entry that names no file. If a general is given, the key `general` with him replaces an
-- entry `generals`.
abbrev pub kept : Option Data → List ℕ → Data → Members → Members
kept None k d done = put k d done
kept (Some g) k d done = if bytes_eq k (codes "generals") then put (codes "general") g done else put k d done

-- Returns the members with an entry, or with the program that replaces the name of a file, if it is given.
abbrev pub entry_by : Option (ReferenceKey × List ℕ) → Option Data → List ℕ → Data → Members → Members
entry_by None general k d done = kept general k d done
entry_by (Some p) general k d done = put (place_of p.0) (string p.1) done

-- Returns the members with an entry of the table `ms`, in which a program replaces the name of its file.
abbrev pub entry : List File → Option Data → Members → List ℕ → Data → Members → Members
entry files general ms k d done = cond (is_spent files ms k) done (entry_by (program files ms k) general k d done)

-- Returns the members with these entries of the table `ms`, one after the other.
abbrev pub entries : List File → Option Data → Members → Members → Members → Members
entries files general ms done no_members = done
entries files general ms done (member k d more) = entries files general ms (entry files general ms k d done) more

-- Returns a copy of a traitor's table that contains programs in place of the names of their files. If a general is
-- given, the copy is only for him, and not for all the generals who share the table.
abbrev pub rebuilt : List File → Option Data → Members → Members
rebuilt files general ms = entries files general ms no_members ms

-- Returns a table for each of the generals who share the table `ms`, with the program in place of the name of its file.
abbrev pub one_each : List File → Members → Items → Items
one_each files ms no_items = no_items
one_each files ms (item g gs) = item (table (rebuilt files (Some g) ms)) (one_each files ms gs)

abbrev pub by_seats : List File → Members → Option Items → Items
by_seats files ms None = item (table (rebuilt files None ms)) no_items
by_seats files ms (Some gs) = one_each files ms gs

-- Returns what replaces a traitor's table: a table for each of its generals, with the program in place of the name of
-- its file.
abbrev pub tables : List File → Members → Items
tables files ms = by_seats files ms (seats ms)

-- Returns what replaces an element of the list of traitors: a table for each of its generals, or the element itself if
-- it is not a table.
abbrev pub tables_by : List File → Data → Option Members → Items
tables_by files d None = item d no_items
tables_by files d (Some ms) = tables files ms

abbrev pub tables_of : List File → Data → Items
tables_of files d = tables_by files d (as_table d)

-- Returns the tables with those that replace an element of the list of traitors, or unchanged if there are 14 or more.
-- A scenario with more than 13 traitors is rejected.
abbrev pub with_tables : List File → Items → Data → Items
with_tables files done d = cond (nat_le 14 (count done)) done (join done (tables_of files d))

-- Returns the tables with those that replace these elements of the list of traitors.
abbrev pub further : List File → Items → Items → Items
further files done no_items = done
further files done (item d ds) = further files (with_tables files done d) ds

-- Returns the list of traitors with a table for each traitor that contains his program.
abbrev pub resolved : List File → Items → Items
resolved files ds = further files no_items ds

-- Returns the scenario, parsed, with the resolved list of traitors in place of its own.
abbrev pub with_traitors : List File → Items → Members → Members
with_traitors files ds ms = put (codes "traitor") (array (resolved files ds)) ms

-- Returns whether a traitor's table names a file, or has the key `generals`.
abbrev pub table_refers : Members → Bool
table_refers ms =
    is_some (get_member (codes "asm_file") ms) || (is_some (get_member (codes "code_file") ms)
    || (is_some (get_member (codes "elf") ms) || is_some (get_member (codes "generals") ms)))

abbrev pub refers_by : Option Members → Bool
refers_by None = false
refers_by (Some ms) = table_refers ms

abbrev pub element_refers : Data → Bool
element_refers d = refers_by (as_table d)

-- Returns whether any table in the list of traitors names a file or has the key `generals`.
abbrev pub refers : Items → Bool
refers no_items = false
refers (item d ds) = element_refers d || refers ds

-- States that the text is this document's, if the document nests at most 80 levels deep. There is no text if TOML
-- cannot write one of its dates.
abbrev pub IsPrinted : Members → Option (List ℕ) → Type 0
IsPrinted ms None = members_have_valid_dates ms ≡ false
IsPrinted ms (Some text) = members_depth ms ≤ 80 → parse_document text ≡ Some ms

-- States that the new text is the text of this document if the flag is true, and otherwise `None`.
abbrev pub IsPrintedIf : Bool → Members → Option (List ℕ) → Type 0
IsPrintedIf true ms new = IsPrinted ms new
IsPrintedIf false ms new = new ≡ None

abbrev pub ResolvesList : List File → Members → Option Items → Option (List ℕ) → Type 0
ResolvesList files ms None new = new ≡ None
ResolvesList files ms (Some ds) new = IsPrintedIf (refers ds) (with_traitors files ds ms) new

-- States that the new text is the resolved text of the scenario. It is `None` if the scenario is not TOML, if no table
-- names a file or has the key `generals`, or if TOML cannot write one of the dates.
abbrev pub Resolves : List File → Option Members → Option (List ℕ) → Type 0
Resolves files None new = new ≡ None
Resolves files (Some ms) new = ResolvesList files ms (traitors ms) new
