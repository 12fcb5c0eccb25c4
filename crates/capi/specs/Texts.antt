-- Defines the explanation and the assembly text of a program, and what is written of them into a buffer of the caller.
use Rattle.std.specs.Prelude.{ℕ, ◌≡◌, ◌++◌, List, Some, length, take, drop}
use Rattle.insn.specs.declared.insn.Insn.{Insn}
use Rattle.codec.specs.Program.{SpellsProgram}
use Rattle.asm.specs.Printing.{text_of}
use Rattle.asm.specs.Program.{program_of}
use Rattle.explain.specs.Explained.{explained}

-- States that the text is the explanation of the program whose bytecode these bytes are.
pub record IsExplanation (bytes text : List ℕ) : Type 0 where
  pub program : List Insn
  pub spelt : SpellsProgram bytes program
  pub is : text ≡ explained program

-- States that the text is the assembly text of the program whose bytecode these bytes are, and assembles to this
-- program.
pub record IsAssembly (bytes text : List ℕ) : Type 0 where
  pub program : List Insn
  pub spelt : SpellsProgram bytes program
  pub is : text ≡ text_of program
  pub again : program_of text ≡ Some program

-- Returns the contents of the buffer `room` after `text` was written to its beginning, cut if the buffer is too short.
abbrev pub overwritten : List ℕ → List ℕ → List ℕ
overwritten text room = take (length room) text ++ drop (length text) room

-- States that the explanation of a program was written to the beginning of a buffer, cut if the buffer is too short.
-- The buffer contained `before` and now contains `after`, and `needed` is the length of the whole explanation. `bytes`
-- are the program's bytecode.
pub record GivesExplanation (bytes before after : List ℕ) (needed : ℕ) : Type 0 where
  pub text : List ℕ
  pub told : IsExplanation bytes text
  pub needs : needed ≡ length text
  pub written : after ≡ overwritten text before

-- States that the assembly text of a program was written to the beginning of a buffer, cut if the buffer is too short.
-- The buffer contained `before` and now contains `after`, and `needed` is the length of the whole text. `bytes` are the
-- program's bytecode.
pub record GivesAssembly (bytes before after : List ℕ) (needed : ℕ) : Type 0 where
  pub text : List ℕ
  pub told : IsAssembly bytes text
  pub needs : needed ≡ length text
  pub written : after ≡ overwritten text before
