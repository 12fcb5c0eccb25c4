-- The path of a file that a scenario names.
use Rattle.std.proofs.Common.{ℕ, ◌≡◌, ◌++◌, List, Some, append_assoc, subst, sym}
use Rattle.std.specs.Prelude.{◌==◌, codes, false, slice_index}
use Rattle.byzlab.specs.Beside.{IsFolderOf, IsPathBy, IsPathOf, path_in, slash}

pub path_from : (scenario name path folder : List ℕ) → (slice_index name 0 == slash) ≡ false
    → IsFolderOf scenario (Some folder) → path ≡ folder ++ (codes "/" ++ name) → IsPathOf scenario name path
path_from scenario name path folder e h p =
    let whole : path ≡ path_in (Some folder) name = simp append_assoc p in
    subst (λ b. IsPathBy b scenario name path) (sym e) (Some folder, h, whole)
