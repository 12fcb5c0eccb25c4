-- The state machine of a line number program (DWARF 5, section 6.2.2), and the rows that it appends.
use Rattle.std.specs.Prelude.{ℕ, zero, suc, ◌≡◌, ◌+◌, ◌%◌, ◌^◌, ◌<◌, List, [], ◌++◌, length, Bool, false, true}
use Rattle.std.specs.Prelude.{Option, Some, None, option_map, option_and_then, option_to_list}
use Rattle.std.specs.Prelude.{Vec}
use Rattle.std.specs.declared.alloc.Global.{Global}
use Rattle.object.specs.declared.header.Header.{Header}
use Rattle.object.specs.declared.step.Step.{Step}
use Rattle.object.specs.declared.step.Step.TheVariants as steps
use Rattle.object.specs.declared.step.Stepped.{Stepped}
use Rattle.object.specs.declared.registers.LineRegisters.{LineRegisters}
use Rattle.object.specs.declared.registers.LineRow.{LineRow}
use Rattle.object.specs.Steps.{step_at}

-- The address that the operand at a byte index means, if it is in the function's section.
abbrev pub Origins : Type 0
Origins = ℕ → Option ℕ

-- The registers at the beginning of a sequence.
abbrev pub at_start : LineRegisters
at_start = record { address = 0; inside = false; file = 1; line = 1 }

-- Returns the registers with address and line advanced, modulo 2^64.
abbrev pub advanced : LineRegisters → ℕ → ℕ → LineRegisters
advanced r address line = record r { address = (r.address + address) % 2 ^ 64; line = (r.line + line) % 2 ^ 64 }

-- Returns the registers with a new address in the function's section. Without an address, they are marked as outside
-- this section.
abbrev pub started : LineRegisters → Option ℕ → LineRegisters
started r None = record r { inside = false }
started r (Some address) = record r { address = address; inside = true }

-- Returns the registers after an instruction. `r` are those before it.
abbrev pub after : Origins → LineRegisters → Step → LineRegisters
after origins r (steps.Row address line) = advanced r address line
after origins r (steps.Address by) = advanced r by 0
after origins r (steps.Line by) = advanced r 0 by
after origins r (steps.File file) = record r { file = file }
after origins r (steps.Start place) = started r (origins place)
after origins r steps.End = at_start
after origins r steps.Other = r

-- Returns a row with these registers. `last` says that it ends a sequence.
abbrev pub row_with : LineRegisters → Bool → LineRow
row_with r last = record { registers = r; last = last }

-- Returns the row that an instruction appends. The row of a special opcode has the registers after it, and the row of
-- the end of a sequence has the registers before it.
abbrev pub row_by : LineRegisters → Step → Option LineRow
row_by r (steps.Row address line) = Some (row_with (advanced r address line) false)
row_by r steps.End = Some (row_with r true)
row_by r _ = None

-- The state of the machine: the byte index of the next instruction, the registers, and the rows so far.
pub record Machine : Type 0 where
  pub place : ℕ
  pub registers : LineRegisters
  pub rows : List LineRow

-- Returns the state after the instruction `s`.
abbrev pub moved : Origins → Machine → Stepped → Machine
moved origins m s = record {
  place = s.next;
  registers = after origins m.registers s.step;
  rows = m.rows ++ option_to_list (row_by m.registers s.step);
}

-- Returns the state after the next instruction, if it is complete.
abbrev pub next_of : Header → List ℕ → Origins → Machine → Option Machine
next_of header bytes origins m = option_map (moved origins m) (step_at header m.place bytes)

-- Returns the state after `n` instructions.
unfoldable pub machine_after : Header → List ℕ → Origins → ℕ → Option Machine
machine_after header bytes origins zero = Some (record { place = header.program; registers = at_start; rows = [] })
machine_after header bytes origins (suc n) =
    option_and_then (next_of header bytes origins) (machine_after header bytes origins n)

-- States that the machine is in this state after some number of instructions.
abbrev pub Comes : Header → List ℕ → Origins → Machine → Type 0
Comes header bytes origins m = (n : ℕ) × (machine_after header bytes origins n ≡ Some m)

-- States that the program ends exactly at the end of the bytes, and these are its rows.
abbrev pub HasRows : Header → List ℕ → Origins → List LineRow → Type 0
HasRows header bytes origins rows =
    (m : Machine) × Comes header bytes origins m × (length bytes ≡ m.place) × (m.rows ≡ rows)

-- States that the machine reaches an instruction that is not complete, before the end of the bytes.
abbrev pub BreaksOff : Header → List ℕ → Origins → Type 0
BreaksOff header bytes origins =
    (m : Machine) × Comes header bytes origins m × (m.place < length bytes) × (step_at header m.place bytes ≡ None)

-- States that the result has the rows of the program, or is `None` because an instruction is not complete.
abbrev pub GivesRows : Header → List ℕ → Origins → Option (Vec LineRow Global) → Type 0
GivesRows header bytes origins None = BreaksOff header bytes origins
GivesRows header bytes origins (Some rows) = HasRows header bytes origins rows.items
