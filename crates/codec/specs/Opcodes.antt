-- The opcodes of no instruction, and the instructions that are not supported (RFC 9669, sections 5.3 to 5.5).
use Rattle.std.specs.Prelude.{ℕ, ◌≡◌, ◌≢◌, ◌≤◌, ◌⊎◌, ◌↔◌, List, [], ◌∷◌, Some, Bool, true, false, ◌==◌}
use Rattle.std.specs.List.{list_any}
use Rattle.insn.specs.declared.insn.Insn.{Insn}
use Rattle.insn.specs.Insn.{IsInsn}
use Rattle.codec.specs.declared.fault.CodecFault.TheVariants as faults
use Rattle.codec.specs.declared.fields.Fields.{Fields}
use Rattle.codec.specs.Spelling.{spelling}
use Rattle.codec.specs.Reading.{fields_of, fault_at}

-- Returns the opcode of the first unit.
abbrev pub opcode_in : List Fields → ℕ
opcode_in [] = 0
opcode_in (first ∷ rest) = first.opcode

-- States that some well-formed instruction is encoded with this opcode.
abbrev pub IsUsed : ℕ → Type 0
IsUsed n = (insn : Insn) × IsInsn insn × (opcode_in (spelling insn) ≡ n)

-- The opcodes that are not supported: packet access at an absolute and at an indirect place (section 5.5), and atomic
-- operations of 4 and 8 bytes (section 5.3).
abbrev pub left_out : List ℕ
left_out = 0x20 ∷ 0x28 ∷ 0x30 ∷ 0x40 ∷ 0x48 ∷ 0x50 ∷ 0xc3 ∷ 0xdb ∷ []

-- Returns whether the opcode is one that is not supported.
abbrev pub is_left_out : ℕ → Bool
is_left_out n = list_any (λ opcode. n == opcode) left_out

-- States that the instruction is not supported: its opcode is not, or its `src` field is not zero. With such a field, a
-- wide instruction loads something other than a number (section 5.4), and a call calls something other than a helper
-- (section 4.3.1).
abbrev pub IsLeftOut : Fields → Type 0
IsLeftOut f =
    (is_left_out f.opcode ≡ true)
    ⊎ ((f.opcode ≡ 0x18) × (f.dst ≤ 10) × (f.src ≢ 0)
    ⊎ (f.opcode ≡ 0x85) × (f.src ≢ 0))

-- States when two faults are reported. `Opcode` is reported exactly if the opcode is that of no well-formed instruction
-- and of none that is not supported. `LeftOut` is reported exactly for the instructions that are not supported.
pub record OpcodesAreTold : Type 0 where
  pub unknown : (bytes : List ℕ) →
      (fault_at bytes ≡ Some faults.Opcode)
      ↔ ((IsUsed (fields_of bytes).opcode → ⊥) × (is_left_out (fields_of bytes).opcode ≡ false))
  pub left : (bytes : List ℕ) → (fault_at bytes ≡ Some faults.LeftOut) ↔ IsLeftOut (fields_of bytes)
