-- Defines what is known at the entry, and where two paths meet (own).
use Rattle.absmem.specs.Stacks.{unknown_stack, joined_stack}
use Rattle.verify.specs.declared.state.AbsState.{AbsState}
use Rattle.verify.specs.Registers.{entry_known, joined_all}

-- Returns what is known at the entry: r1 points to the context, and r10 to the end of the stack. Nothing is known of
-- the stack cells.
abbrev pub at_entry : AbsState
at_entry = record { registers = entry_known; stack = unknown_stack }

-- Returns what is known where two paths meet: what holds on both.
abbrev pub met : AbsState → AbsState → AbsState
met a b = record { registers = joined_all a.registers b.registers; stack = joined_stack a.stack b.stack }
