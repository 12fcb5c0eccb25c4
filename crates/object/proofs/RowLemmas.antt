-- The machine of a line number program, instruction by instruction.
use Rattle.std.proofs.Common.{◌≡◌, ℕ, zero, suc, List, [], ◌++◌, sym, ap, ◌∙◌}
use Rattle.std.specs.Prelude.{Some, option_map, option_and_then, option_to_list}
use Rattle.object.specs.declared.header.Header.{Header}
use Rattle.object.specs.declared.registers.LineRegisters.{LineRegisters}
use Rattle.object.specs.declared.registers.LineRow.{LineRow}
use Rattle.object.specs.declared.step.Stepped.{Stepped}
use Rattle.object.specs.Steps.{step_at}
use Rattle.object.specs.Rows.{Origins, Machine, Comes, machine_after, next_of, moved, at_start, after, row_by}

abbrev pub machine_at : ℕ → LineRegisters → List LineRow → Machine
machine_at place registers rows = record { place = place; registers = registers; rows = rows }

pub comes_first : (header : Header) (bytes : List ℕ) (origins : Origins) (rows : List LineRow) → rows ≡ [] →
    Comes header bytes origins (machine_at header.program at_start rows)
unfolding machine_after
comes_first header bytes origins rows e = (zero, ap (λ (r : List LineRow). Some (machine_at header.program at_start r)) (sym e))

machine_suc : (header : Header) (bytes : List ℕ) (origins : Origins) (n : ℕ) (m : Machine) →
    machine_after header bytes origins n ≡ Some m → machine_after header bytes origins (suc n) ≡ next_of header bytes origins m
unfolding machine_after
machine_suc header bytes origins n m e = ap (option_and_then (next_of header bytes origins)) e

-- The machine after one more instruction.
pub comes_on : (header : Header) (bytes : List ℕ) (origins : Origins) (m : Machine) (s : Stepped) →
    Comes header bytes origins m → step_at header m.place bytes ≡ Some s → Comes header bytes origins (moved origins m s)
comes_on header bytes origins m s come step =
    (suc come.0, machine_suc header bytes origins come.0 m come.1 ∙ ap (option_map (moved origins m)) step)

-- The machine after one more instruction, by its parts in the code.
pub comes_as : (header : Header) (bytes : List ℕ) (origins : Origins) (place : ℕ) (registers : LineRegisters) (rows : List LineRow)
    (s : Stepped) (registers' : LineRegisters) (rows' : List LineRow) →
    Comes header bytes origins (machine_at place registers rows) → Some s ≡ step_at header place bytes →
    registers' ≡ after origins registers s.step → rows' ≡ rows ++ option_to_list (row_by registers s.step) →
    Comes header bytes origins (machine_at s.next registers' rows')
comes_as header bytes origins place registers rows s registers' rows' come step r rs =
    rw (r, rs) (comes_on header bytes origins (machine_at place registers rows) s come (sym step))
