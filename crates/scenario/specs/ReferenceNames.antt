-- The files that a traitor's table names, and the generals who share it (own).
use Rattle.std.specs.Prelude.{ℕ, zero, suc, Bool, true, false, ◌&&◌, ◌||◌, if◌then◌else◌, cond, List, [], ◌∷◌, Option, None, Some, is_some, option_and_then, option_map, codes, bytes_eq}
use Rattle.toml.specs.Data.{Items, Members, no_items, item, get_member, as_array, as_str}
use Rattle.scenario.specs.declared.reference_key.ReferenceKey.{ReferenceKey}
use Rattle.scenario.specs.declared.reference_key.ReferenceKey.TheVariants.{Assembly, Bytecode, Object}

-- Returns the key with the name of a file of this kind: `asm_file`, `code_file` or `elf`.
abbrev pub reference_of : ReferenceKey → List ℕ
reference_of Assembly = codes "asm_file"
reference_of Bytecode = codes "code_file"
reference_of Object = codes "elf"

-- Returns the key with the program itself, `asm` or `code`, which replaces the key with the name of a file of this
-- kind.
abbrev pub place_of : ReferenceKey → List ℕ
place_of Assembly = codes "asm"
place_of Bytecode = codes "code"
place_of Object = codes "code"

-- Returns the kind of file that the key `k` names, or `None` for a key that names no file.
abbrev pub key_of : List ℕ → Option ReferenceKey
key_of k =
    if bytes_eq k (codes "asm_file") then Some Assembly
    else if bytes_eq k (codes "code_file") then Some Bytecode
    else if bytes_eq k (codes "elf") then Some Object
    else None

abbrev pub is_same : ReferenceKey → ReferenceKey → Bool
is_same Assembly Assembly = true
is_same Bytecode Bytecode = true
is_same Object Object = true
is_same _ _ = false

-- A file that a scenario names, after it was read: the key and the name by which a table refers to it, the name of a
-- function if the table names one in an object file, and the text that replaces the reference.
pub record File : Type 0 where
  pub key : ReferenceKey
  pub name : List ℕ
  pub function : Option (List ℕ)
  pub text : List ℕ

-- Returns whether two names of functions are the same, or both `None`.
abbrev pub are_same : Option (List ℕ) → Option (List ℕ) → Bool
are_same None None = true
are_same (Some f) (Some g) = bytes_eq f g
are_same _ _ = false

-- Returns whether a table refers to this file by this key, name and function.
abbrev pub is_named : File → ReferenceKey → List ℕ → Option (List ℕ) → Bool
is_named f key name function = is_same f.key key && (bytes_eq f.name name && are_same f.function function)

-- Returns the text that replaces the name of a file. It comes from the first file with this key, name and function, and
-- is `None` if there is no such file.
abbrev pub text_named : List File → ReferenceKey → List ℕ → Option (List ℕ) → Option (List ℕ)
text_named [] key name function = None
text_named (f ∷ fs) key name function =
    cond (is_named f key name function) (Some f.text) (text_named fs key name function)

-- Returns whether a traitor's table gives the program by another key, so that it may not name a file of this kind.
abbrev pub is_taken : ReferenceKey → Members → Bool
is_taken Object ms = is_some (get_member (codes "code") ms) || is_some (get_member (codes "code_file") ms)
is_taken key ms = is_some (get_member (place_of key) ms)

-- Returns the name of the file that a traitor's table gives by this key, or `None` if it gives none, or gives the
-- program by another key.
abbrev pub name_at : ReferenceKey → Members → Option (List ℕ)
name_at key ms = cond (is_taken key ms) None (option_and_then as_str (get_member (reference_of key) ms))

-- Returns the name of the function that a traitor's table names in an object file, or `None` if it names none or the
-- file is of another kind.
abbrev pub function_at : ReferenceKey → Members → Option (List ℕ)
function_at Object ms = option_and_then as_str (get_member (codes "entry") ms)
function_at key ms = None

-- Returns the first `n` items, or all of them if there are fewer.
abbrev pub first_items : ℕ → Items → Items
first_items n no_items = no_items
first_items zero (item d ds) = no_items
first_items (suc n) (item d ds) = item d (first_items n ds)

-- Returns the generals who share a traitor's table, or `None` if the table has a key `general` or no list `generals`.
-- If there are more than 14 generals, it returns the first 14, since a scenario with more than 13 is rejected.
abbrev pub seats : Members → Option Items
seats ms = cond (is_some (get_member (codes "general") ms)) None
    (option_map (first_items 14) (option_and_then as_array (get_member (codes "generals") ms)))

-- Returns whether a traitor's table is for an empty list of generals, and so for no one.
abbrev pub is_nobodys : Option Items → Bool
is_nobodys (Some no_items) = true
is_nobodys _ = false

-- Returns the list of traitors of a scenario, or `None` if it has no such list.
abbrev pub traitors : Members → Option Items
traitors ms = option_and_then as_array (get_member (codes "traitor") ms)
