-- A general's program is found by his number.
use Rattle.std.proofs.Common.{◌≡◌, ℕ, zero, suc, List, [], ◌∷◌, Option, Some, None, get_or}
use Rattle.std.specs.Prelude.{slice_get}
use Rattle.insn.specs.declared.insn.Insn.{Insn}

pub program_at : (seats : List (Option (List Insn))) (g : ℕ) (program : List Insn) → get_or seats g None ≡ Some program → slice_get seats g ≡ Some (Some program)
program_at [] zero program e = cc
program_at [] (suc g) program e = cc
program_at (seat ∷ seats) zero program e = cc
program_at (seat ∷ seats) (suc g) program e = program_at seats g program e
