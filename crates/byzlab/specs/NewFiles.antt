-- Defines the names of new files, and which names belong to streams (own).
use Rattle.std.specs.Prelude.{ℕ, ◌≡◌, ◌++◌, ◌||◌, Bool, List, Option, None, Some, codes, decimal, nat_eq, string_bytes}
use Rattle.std.specs.List.{starts_with}
use Rattle.byzlab.specs.declared.new_file.Renaming.{Renaming}

-- Checks whether a name belongs to a stream of the system, such as `/dev/stdout` or an open file in `/proc/`.
abbrev pub is_stream : List ℕ → Bool
is_stream name =
    starts_with nat_eq name (codes "/proc/") || starts_with nat_eq name (codes "/dev/fd/")
    || starts_with nat_eq name (codes "/dev/std")

-- Returns the name of the new file `number` next to the file `name`: for `page.html` and 1 it is `page.html.new1`.
abbrev pub name_beside : List ℕ → ℕ → List ℕ
name_beside name number = name ++ (codes ".new" ++ decimal number)

-- States that the new file `number` gets the name `name` when it is whole.
pub record IsRenaming (name : List ℕ) (number : ℕ) (renaming : Renaming) : Type 0 where
  pub from : string_bytes renaming.from ≡ name_beside name number
  pub to : string_bytes renaming.to ≡ name

-- States that some new file gets the name `name` when it is whole.
abbrev pub IsRenamedTo : List ℕ → Option Renaming → Type 0
IsRenamedTo name None = ⊥
IsRenamedTo name (Some renaming) = (number : ℕ) × IsRenaming name number renaming
