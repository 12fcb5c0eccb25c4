-- Bytecode as a list of pieces: the instruction at each unit or, if none can be decoded there, only the unit.
use Rattle.std.specs.Prelude.{ℕ, ◌≡◌, List, [], ◌∷◌, ◌++◌, Some, length}
use Rattle.insn.specs.declared.insn.Insn.{Insn}
use Rattle.insn.specs.Insn.{IsInsn}
use Rattle.codec.specs.declared.fault.CodecFault.{CodecFault}
use Rattle.codec.specs.Spelling.{instruction_bytes}
use Rattle.codec.specs.Reading.{fault_at}

-- A piece of bytecode: an instruction, or the eight bytes of a unit that cannot be decoded, and the fault.
pub data Piece : Type 0 where
  Spelled : Insn → Piece
  Raw : List ℕ → CodecFault → Piece

-- States that the bytes begin with the piece, and that `rest` follows it.
abbrev pub IsFirst : List ℕ → Piece → List ℕ → Type 0
IsFirst bytes (Spelled insn) rest = IsInsn insn × (bytes ≡ instruction_bytes insn ++ rest)
IsFirst bytes (Raw unit fault) rest = (length unit ≡ 8) × (fault_at bytes ≡ Some fault) × (bytes ≡ unit ++ rest)

-- States that the bytes consist of these pieces, in order.
abbrev pub ArePieces : List Piece → List ℕ → Type 0
ArePieces [] bytes = bytes ≡ []
ArePieces (piece ∷ pieces) bytes = (rest : List ℕ) × IsFirst bytes piece rest × ArePieces pieces rest
