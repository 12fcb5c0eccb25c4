-- Defines which memory the address of a loaded program owns.
use Rattle.std.specs.Prelude.{List, None, Some}
use Rattle.std.specs.declared.option.Option.{Option}
use base.Fml.{Fml, ftrue}
use denote.RawPtr.{Ptr}
use Rattle.std.specs.Box.Ownership.{box_owns}
use Rattle.std_heap.specs.contracts.GlobalAllocator.TheImpl.{ghosts}
use Rattle.std_heap.specs.contracts.Global as Heap
use Rattle.insn.specs.declared.insn.Insn.{Insn}
use Rattle.capi.specs.contracts.kept.Kept.{the_row}

-- The handle of the heap, which is one value.
abbrev heap : Heap.the_row.Denot
heap = record { memory = record { seal = tt } }

-- Describes the memory that the address of a loaded program owns: a block with the program, and the right to free it.
-- Without a program it owns nothing.
abbrev pub place_owns : Ptr → Option (List Insn) → Fml
place_owns at None = ftrue
place_owns at (Some program) = box_owns (ghosts.dealloc_token heap) the_row at program
