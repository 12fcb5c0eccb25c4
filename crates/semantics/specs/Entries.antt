-- Defines which signed messages a program can enter in its outbox (own; TOPLAS 1982, section 4, algorithm SM(m)).
use Rattle.std.specs.Prelude.{ℕ, ◌==◌, Bool, false, not, ◌&&◌, nat_lt, if◌then◌else◌, List, [], ◌∷◌, ◌++◌, length, Option, None, Some, slice_get}
use Rattle.std.specs.Int.{bit_at}
use Rattle.label.specs.declared.shape.Shape.{Shape}
use Rattle.semantics.specs.declared.entry.Entry.{Entry}
use Rattle.semantics.specs.declared.entry.Entry.TheVariants.{Sign, Pass}
use Rattle.semantics.specs.Relay.{Kind, Oral, Signed, Relay}

-- Checks whether there is a chain and general `g` has not signed it. A chain is given as the set of its signers.
abbrev pub is_unsigned : ℕ → Option ℕ → Bool
is_unsigned g None = false
is_unsigned g (Some signers) = not (bit_at signers g == 1)

-- Checks whether a general may make an entry. Only the commander signs an order, and only a chain that the general
-- holds and has not signed can be passed on. With oral messages there are no entries.
abbrev pub may_send : Kind → Shape → Entry → Bool
may_send Oral shape entry = false
may_send (Signed held) shape (Sign order receivers) = shape.general == shape.commander
may_send (Signed held) shape (Pass place receivers) = is_unsigned shape.general (slice_get held place)

-- Checks whether the general of this relay may make an entry.
abbrev pub is_sendable : Relay → Entry → Bool
is_sendable relay entry = may_send relay.kind relay.shape entry

-- The greatest number of entries in one run.
abbrev pub most_entries : ℕ
most_entries = 8

-- Checks whether an entry is accepted after the entries that were made before.
abbrev pub is_entered : Relay → List Entry → Entry → Bool
is_entered relay entries entry = is_sendable relay entry && nat_lt (length entries) most_entries

-- Returns the entries after an attempt to make one: it is appended if it is accepted.
abbrev pub entered : Relay → List Entry → Entry → List Entry
entered relay entries entry = if is_entered relay entries entry then entries ++ entry ∷ [] else entries
