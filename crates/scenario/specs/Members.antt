-- A table with one more key, and two lists joined (TOML 1.0). In TOML the keys of a table have no order, but here they
-- ascend by bytes.
use Rattle.std.specs.Prelude.{ℕ, List}
use Rattle.std.specs.Ordering.{nat_cmp, match_ordering}
use Rattle.std.specs.Cmp.Lexicographic.{slice_cmp}
use Rattle.toml.specs.Data.{Data, Items, no_items, item, Members, no_members, member}

-- Returns the members of a table with the value `d` at the key `k`, in place of any value there.
abbrev pub put : List ℕ → Data → Members → Members
put k d no_members = member k d no_members
put k d (member l e ms) =
    match_ordering (slice_cmp nat_cmp k l) (member k d (member l e ms)) (member l d ms) (member l e (put k d ms))

-- Returns the concatenation of two lists: the items of the first list, and then those of the second.
abbrev pub join : Items → Items → Items
join no_items es = es
join (item d ds) es = item d (join ds es)
