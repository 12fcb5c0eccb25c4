-- The files that the traitors' tables of a scenario name (own).
use Rattle.std.specs.Prelude.{ℕ, ◌+◌, ◌&&◌, ◌||◌, Bool, false, cond, bytes_eq, length, nat_le, List, [], ◌∷◌, ◌++◌, Option, None, Some}
use Rattle.toml.specs.Data.{Items, no_items, item, Members, as_table}
use Rattle.scenario.specs.declared.reference_key.ReferenceKey.{ReferenceKey}
use Rattle.scenario.specs.declared.reference_key.ReferenceKey.TheVariants.{Assembly, Bytecode, Object}
use Rattle.scenario.specs.ReferenceNames.{are_same, function_at, is_nobodys, is_same, name_at, seats, traitors}

-- A file that a traitor's table names: the number of the table, the key, the name, and the name of a function if the
-- file is an object file.
pub record Asked : Type 0 where
  pub index : ℕ
  pub key : ReferenceKey
  pub name : List ℕ
  pub function : Option (List ℕ)

abbrev pub asked_if : ℕ → ReferenceKey → Option (List ℕ) → Option (List ℕ) → List Asked
asked_if i key function None = []
asked_if i key function (Some name) = record { index = i; key = key; name = name; function = function } ∷ []

-- Returns the file that table `i` names by this key, or no file.
abbrev pub asked_by : ℕ → Members → ReferenceKey → List Asked
asked_by i ms key = asked_if i key (function_at key ms) (name_at key ms)

-- Returns the files that table `i` names.
abbrev pub asked_all : ℕ → Members → List Asked
asked_all i ms = asked_by i ms Assembly ++ asked_by i ms Bytecode ++ asked_by i ms Object

-- Returns the files that element `i` of the list of traitors names. An element that is no table, or that is for an
-- empty list of generals, names none.
abbrev pub asked_of : ℕ → Option Members → List Asked
asked_of i None = []
asked_of i (Some ms) = cond (is_nobodys (seats ms)) [] (asked_all i ms)

-- Returns the files that the elements of a list name. The elements are counted from `i`.
abbrev pub asked_in : ℕ → Items → List Asked
asked_in i no_items = []
asked_in i (item d ds) = asked_of i (as_table d) ++ asked_in (i + 1) ds

-- Returns whether one of these files has this key, this name and this function.
abbrev pub is_asked : ReferenceKey → List ℕ → Option (List ℕ) → List Asked → Bool
is_asked key name function [] = false
is_asked key name function (a ∷ more) =
    (is_same a.key key && (bytes_eq a.name name && are_same a.function function)) || is_asked key name function more

-- Returns the files with one more, unless it is among them already or there are 42. A scenario with more is rejected:
-- at most 14 tables matter, and each names at most three files.
abbrev pub with_asked : List Asked → Asked → List Asked
with_asked all a = cond (nat_le 42 (length all) || is_asked a.key a.name a.function all) all (all ++ a ∷ [])

-- Returns the files with further ones, each of them once, up to 42.
abbrev pub gathered : List Asked → List Asked → List Asked
gathered all [] = all
gathered all (a ∷ more) = gathered (with_asked all a) more

abbrev pub asked_by_list : Option Items → List Asked
asked_by_list None = []
asked_by_list (Some ds) = asked_in 0 ds

-- Returns the files that a scenario names, each of them once: the first 42, in the order of its tables. The argument is
-- the scenario's text, parsed, or `None` if it is not TOML.
abbrev pub asked : Option Members → List Asked
asked None = []
asked (Some ms) = gathered [] (asked_by_list (traitors ms))
