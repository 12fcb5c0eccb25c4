-- The name that a new file gets.
use Rattle.std.proofs.Common.{ℕ, List, Option, None, Some}
use Rattle.std.specs.Prelude.{IsSomeAnd}
use Rattle.byzlab.specs.NewFiles.{IsRenamedTo, IsRenaming}
use Rattle.byzlab.specs.declared.new_file.Renaming.{Renaming}

pub renamed_to : (name : List ℕ) (number : ℕ) (renaming : Option Renaming) → IsSomeAnd renaming (IsRenaming name number)
    → IsRenamedTo name renaming
renamed_to name number (Some renaming) is = (number, is)
renamed_to name number None is = absurd is
