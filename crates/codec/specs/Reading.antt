-- The first fault of the bytes of an instruction.
use Rattle.std.specs.Prelude.{ℕ, ◌≡◌, ◌≤◌, ◌/◌, ◌%◌, List, [], ◌∷◌, Bool, true, not, nat_lt, ◌==◌, ◌||◌, if◌then◌else◌, Option, Some, None, slice_index, drop, length}
use Rattle.std.specs.Int.{w16, w32, from_le_bytes}
use Rattle.word.specs.declared.Width.{Width}
use Rattle.word.specs.declared.Width.TheVariants.{W32, W64}
use Rattle.codec.specs.declared.fault.CodecFault.{CodecFault}
use Rattle.codec.specs.declared.fault.CodecFault.TheVariants as faults
use Rattle.codec.specs.declared.fields.Fields.{Fields}
use Rattle.codec.specs.declared.form.Form.{Form}
use Rattle.codec.specs.declared.form.Form.TheVariants as forms
use Rattle.codec.specs.Form.{form_of}

-- Returns the fields of the unit in the first 8 bytes (RFC 9669, section 3.1).
abbrev pub fields_of : List ℕ → Fields
fields_of bytes = record {
  opcode = slice_index bytes 0;
  dst = slice_index bytes 1 % 16;
  src = slice_index bytes 1 / 16;
  offset = from_le_bytes w16 (slice_index bytes 2 ∷ slice_index bytes 3 ∷ []);
  imm = from_le_bytes w32 (slice_index bytes 4 ∷ slice_index bytes 5 ∷ slice_index bytes 6 ∷ slice_index bytes 7 ∷ []);
}

-- Returns whether the field is not zero.
abbrev pub is_set : ℕ → Bool
is_set n = not (n == 0)

-- Returns whether no register has this number, because it is above 10.
abbrev pub is_past : ℕ → Bool
is_past r = nat_lt 10 r

-- Returns whether an `offset` field of a move selects neither a plain move (0) nor a sign extension of this width
-- (section 4.1: 8 or 16 and, at 64 bits, also 32).
abbrev pub is_no_part : Width → ℕ → Bool
is_no_part W32 n = not (n == 0 || n == 8 || n == 16)
is_no_part W64 n = not (n == 0 || n == 8 || n == 16 || n == 32)

-- Returns whether no byte swap has this number of bits (section 4.2).
abbrev pub is_no_swap : ℕ → Bool
is_no_swap n = not (n == 16 || n == 32 || n == 64)

-- Returns whether a field of the second unit of a wide instruction that must be zero is not: its first 32 bits are
-- reserved (section 3.2).
abbrev pub is_reserved_set : Fields → Bool
is_reserved_set f = is_set f.opcode || is_set f.dst || is_set f.src || is_set f.offset

-- Returns the checks of an instruction with a known opcode, in order: the registers that it uses, whether it is
-- supported, the fields that select it, the fields that must be zero, and the second unit.
abbrev pub checks_of : Form → Fields → List ℕ → List (Bool × CodecFault)
checks_of (forms.Immediate width operation) f behind =
    (is_past f.dst, faults.Register) ∷ (is_set f.src, faults.Reserved) ∷ (is_set f.offset, faults.Reserved) ∷ []
checks_of (forms.Register width operation) f behind =
    (is_past f.dst, faults.Register) ∷ (is_past f.src, faults.Register) ∷ (is_set f.offset, faults.Reserved) ∷
    (is_set f.imm, faults.Reserved) ∷ []
checks_of (forms.DivideImmediate width division) f behind =
    (is_past f.dst, faults.Register) ∷ (nat_lt 1 f.offset, faults.Operand) ∷ (is_set f.src, faults.Reserved) ∷ []
checks_of (forms.DivideRegister width division) f behind =
    (is_past f.dst, faults.Register) ∷ (is_past f.src, faults.Register) ∷ (nat_lt 1 f.offset, faults.Operand) ∷
    (is_set f.imm, faults.Reserved) ∷ []
checks_of (forms.MoveRegister width) f behind =
    (is_past f.dst, faults.Register) ∷ (is_past f.src, faults.Register) ∷ (is_no_part width f.offset, faults.Operand) ∷
    (is_set f.imm, faults.Reserved) ∷ []
checks_of (forms.Negate width) f behind =
    (is_past f.dst, faults.Register) ∷ (is_set f.src, faults.Reserved) ∷ (is_set f.offset, faults.Reserved) ∷
    (is_set f.imm, faults.Reserved) ∷ []
checks_of (forms.Swap order) f behind =
    (is_past f.dst, faults.Register) ∷ (is_no_swap f.imm, faults.Operand) ∷ (is_set f.src, faults.Reserved) ∷
    (is_set f.offset, faults.Reserved) ∷ []
checks_of forms.LoadImmediate f behind =
    (is_past f.dst, faults.Register) ∷ (is_set f.src, faults.LeftOut) ∷ (is_set f.offset, faults.Reserved) ∷
    (nat_lt (length behind) 8, faults.WideCut) ∷ (is_reserved_set (fields_of behind), faults.Reserved) ∷ []
checks_of forms.Jump f behind =
    (is_set f.dst, faults.Reserved) ∷ (is_set f.src, faults.Reserved) ∷ (is_set f.imm, faults.Reserved) ∷ []
checks_of forms.LongJump f behind =
    (is_set f.dst, faults.Reserved) ∷ (is_set f.src, faults.Reserved) ∷ (is_set f.offset, faults.Reserved) ∷ []
checks_of (forms.BranchImmediate width condition) f behind =
    (is_past f.dst, faults.Register) ∷ (is_set f.src, faults.Reserved) ∷ []
checks_of (forms.BranchRegister width condition) f behind =
    (is_past f.dst, faults.Register) ∷ (is_past f.src, faults.Register) ∷ (is_set f.imm, faults.Reserved) ∷ []
checks_of (forms.Load _) f behind =
    (is_past f.dst, faults.Register) ∷ (is_past f.src, faults.Register) ∷ (is_set f.imm, faults.Reserved) ∷ []
checks_of (forms.LoadSigned part) f behind =
    (is_past f.dst, faults.Register) ∷ (is_past f.src, faults.Register) ∷ (is_set f.imm, faults.Reserved) ∷ []
checks_of (forms.StoreImmediate _) f behind =
    (is_past f.dst, faults.Register) ∷ (is_set f.src, faults.Reserved) ∷ []
checks_of (forms.StoreRegister _) f behind =
    (is_past f.dst, faults.Register) ∷ (is_past f.src, faults.Register) ∷ (is_set f.imm, faults.Reserved) ∷ []
checks_of forms.Call f behind =
    (is_set f.src, faults.LeftOut) ∷ (is_set f.dst, faults.Reserved) ∷ (is_set f.offset, faults.Reserved) ∷ []
checks_of forms.Exit f behind =
    (is_set f.dst, faults.Reserved) ∷ (is_set f.src, faults.Reserved) ∷ (is_set f.offset, faults.Reserved) ∷
    (is_set f.imm, faults.Reserved) ∷ []
checks_of forms.LeftOut f behind = (true, faults.LeftOut) ∷ []
checks_of forms.Unknown f behind = (true, faults.Opcode) ∷ []

-- Returns the fault of the first check that fails.
abbrev pub first_fault : List (Bool × CodecFault) → Option CodecFault
first_fault [] = None
first_fault (check ∷ checks) = if check.0 then Some check.1 else first_fault checks

-- Returns the first fault of an instruction with these fields in its first unit and these bytes after it.
abbrev pub fault_in : Fields → List ℕ → Option CodecFault
fault_in f behind = first_fault (checks_of (form_of f.opcode) f behind)

-- Returns the first fault of the instruction at the beginning of the bytes.
abbrev pub fault_at : List ℕ → Option CodecFault
fault_at bytes = fault_in (fields_of bytes) (drop 8 bytes)

-- States that an instruction's units are one with these fields, or two, of which the second is at the beginning of the
-- bytes after it.
abbrev pub AreUnits : List Fields → Fields → List ℕ → Type 0
AreUnits [] f behind = ⊥
AreUnits (first ∷ []) f behind = first ≡ f
AreUnits (first ∷ second ∷ []) f behind = (first ≡ f) × (8 ≤ length behind) × (second ≡ fields_of behind)
AreUnits (first ∷ second ∷ third ∷ more) f behind = ⊥
