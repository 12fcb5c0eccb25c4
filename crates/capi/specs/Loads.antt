-- Defines loaded programs.
use Rattle.std.specs.Prelude.{ℕ, ◌≡◌, List, Option, Some}
use Rattle.insn.specs.declared.insn.Insn.{Insn}
use Rattle.codec.specs.Program.{SpellsProgram}

-- States that the loaded program is the one whose bytecode these bytes are.
pub record IsLoaded (bytes : List ℕ) (loaded : Option (List Insn)) : Type 0 where
  pub program : List Insn
  pub spelt : SpellsProgram bytes program
  pub is : loaded ≡ Some program
