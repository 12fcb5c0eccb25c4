-- Rows, computed: each right side is the result of a run of the program. Written by checks/generate.
use Rattle.std.specs.Prelude.{pos, negsuc, ◌≡◌, [], ◌∷◌, ◌++◌, true, false, Some, None, replicate, refl}
use Rattle.word.specs.declared.Width.TheVariants.{W32, W64}
use Rattle.word.specs.declared.Operation.TheVariants as op
use Rattle.word.specs.declared.Condition.TheVariants as c
use Rattle.word.specs.declared.Narrow.TheVariants as narrow
use Rattle.word.specs.declared.SwapSize.TheVariants as swap
use Rattle.word.specs.declared.ByteOrder.TheVariants as order
use Rattle.insn.specs.declared.insn.Insn.TheVariants as i
use Rattle.insn.specs.declared.insn.Operand.TheVariants.{Register, Immediate}
use Rattle.insn.specs.declared.insn.Size.TheVariants as size
use Rattle.label.specs.Labels.{labels}
use Rattle.semantics.specs.declared.value.Region.TheVariants.{Stack, Context}
use Rattle.semantics.specs.declared.value.Value.TheVariants.{Unset, Number, Pointer}
use Rattle.semantics.specs.declared.value.Cell.TheVariants.{Empty, Byte, Piece}
use Rattle.semantics.specs.declared.entry.Entry.TheVariants.{Sign, Pass}
use Rattle.semantics.specs.Relay.{oral, signed}
use Rattle.semantics.specs.Entries.{is_sendable, entered}
use Rattle.semantics.specs.State.{UnsetRegister, PointerUse, FrameWrite, OutOfBounds, NoBytes, ContextWrite, NoHelper, Argument, NoInstruction}
use Rattle.semantics.specs.Execution.{step}
use Rattle.semantics.specs.Run.{Running, Exited, Trapped, onwards, after}

-- answer; the verifier: accepted
answer : after (i.Arithmetic W64 op.Move 0 (Immediate (pos 42)) ∷ i.Exit ∷ []) ((4 ∷ 0 ∷ 0 ∷ 0 ∷ 1 ∷ 0 ∷ 0 ∷ 0 ∷ 3 ∷ 0 ∷ 0 ∷ 0 ∷ 0 ∷ 0 ∷ 0 ∷ 0 ∷ 1 ∷ 0 ∷ 0 ∷ 0 ∷ 0 ∷ 0 ∷ 0 ∷ 0 ∷ 3 ∷ []) ++ replicate 4071 0) (oral (record { generals = 4; commander = 0; general = 3; round = 1 })) ([]) 2 ≡ Exited 42 (record { unit = 1; registers = ((Number 42) ∷ (Pointer Context (pos 0)) ∷ (Unset) ∷ (Unset) ∷ (Unset) ∷ (Unset) ∷ (Unset) ∷ (Unset) ∷ (Unset) ∷ (Unset) ∷ (Pointer Stack (pos 0)) ∷ []); cells = (replicate 512 (Empty)); outbox = ([]); entries = []; steps = 2 })
unfolding labels step onwards
answer = refl

-- bare_exit; the verifier: refused V5 unit 0
bare_exit : after (i.Exit ∷ []) ((4 ∷ 0 ∷ 0 ∷ 0 ∷ 1 ∷ 0 ∷ 0 ∷ 0 ∷ 3 ∷ 0 ∷ 0 ∷ 0 ∷ 0 ∷ 0 ∷ 0 ∷ 0 ∷ 1 ∷ 0 ∷ 0 ∷ 0 ∷ 0 ∷ 0 ∷ 0 ∷ 0 ∷ 3 ∷ []) ++ replicate 4071 0) (oral (record { generals = 4; commander = 0; general = 3; round = 1 })) ([]) 2 ≡ Trapped UnsetRegister
unfolding labels step onwards
bare_exit = refl

-- jump_back; the verifier: refused V1 unit 0
jump_back : after (i.Jump (negsuc 0) ∷ i.Exit ∷ []) ((4 ∷ 0 ∷ 0 ∷ 0 ∷ 1 ∷ 0 ∷ 0 ∷ 0 ∷ 3 ∷ 0 ∷ 0 ∷ 0 ∷ 0 ∷ 0 ∷ 0 ∷ 0 ∷ 1 ∷ 0 ∷ 0 ∷ 0 ∷ 0 ∷ 0 ∷ 0 ∷ 0 ∷ 3 ∷ []) ++ replicate 4071 0) (oral (record { generals = 4; commander = 0; general = 3; round = 1 })) ([]) 60 ≡ Running (record { unit = 0; registers = ((Unset) ∷ (Pointer Context (pos 0)) ∷ (Unset) ∷ (Unset) ∷ (Unset) ∷ (Unset) ∷ (Unset) ∷ (Unset) ∷ (Unset) ∷ (Unset) ∷ (Pointer Stack (pos 0)) ∷ []); cells = (replicate 512 (Empty)); outbox = ([]); entries = []; steps = 60 })
unfolding labels step onwards
jump_back = refl

-- jump_to_next; the verifier: accepted
jump_to_next : after (i.Arithmetic W64 op.Move 0 (Immediate (pos 0)) ∷ i.Jump (pos 0) ∷ i.Exit ∷ []) ((4 ∷ 0 ∷ 0 ∷ 0 ∷ 1 ∷ 0 ∷ 0 ∷ 0 ∷ 3 ∷ 0 ∷ 0 ∷ 0 ∷ 0 ∷ 0 ∷ 0 ∷ 0 ∷ 1 ∷ 0 ∷ 0 ∷ 0 ∷ 0 ∷ 0 ∷ 0 ∷ 0 ∷ 3 ∷ []) ++ replicate 4071 0) (oral (record { generals = 4; commander = 0; general = 3; round = 1 })) ([]) 3 ≡ Exited 0 (record { unit = 2; registers = ((Number 0) ∷ (Pointer Context (pos 0)) ∷ (Unset) ∷ (Unset) ∷ (Unset) ∷ (Unset) ∷ (Unset) ∷ (Unset) ∷ (Unset) ∷ (Unset) ∷ (Pointer Stack (pos 0)) ∷ []); cells = (replicate 512 (Empty)); outbox = ([]); entries = []; steps = 3 })
unfolding labels step onwards
jump_to_next = refl

-- jump_into_wide; the verifier: refused V3 unit 0
jump_into_wide : after (i.Jump (pos 1) ∷ i.LoadImmediate 0 1 ∷ i.Exit ∷ []) ((4 ∷ 0 ∷ 0 ∷ 0 ∷ 1 ∷ 0 ∷ 0 ∷ 0 ∷ 3 ∷ 0 ∷ 0 ∷ 0 ∷ 0 ∷ 0 ∷ 0 ∷ 0 ∷ 1 ∷ 0 ∷ 0 ∷ 0 ∷ 0 ∷ 0 ∷ 0 ∷ 0 ∷ 3 ∷ []) ++ replicate 4071 0) (oral (record { generals = 4; commander = 0; general = 3; round = 1 })) ([]) 2 ≡ Trapped NoInstruction
unfolding labels step onwards
jump_into_wide = refl

-- no_exit; the verifier: refused V4 unit 0
no_exit : after (i.Arithmetic W64 op.Move 0 (Immediate (pos 0)) ∷ []) ((4 ∷ 0 ∷ 0 ∷ 0 ∷ 1 ∷ 0 ∷ 0 ∷ 0 ∷ 3 ∷ 0 ∷ 0 ∷ 0 ∷ 0 ∷ 0 ∷ 0 ∷ 0 ∷ 1 ∷ 0 ∷ 0 ∷ 0 ∷ 0 ∷ 0 ∷ 0 ∷ 0 ∷ 3 ∷ []) ++ replicate 4071 0) (oral (record { generals = 4; commander = 0; general = 3; round = 1 })) ([]) 2 ≡ Trapped NoInstruction
unfolding labels step onwards
no_exit = refl

-- pointer_past_the_limit; the verifier: refused V7 unit 0
pointer_past_the_limit : after (i.Arithmetic W64 op.Add 1 (Immediate (pos 287454020)) ∷ i.Exit ∷ []) ((4 ∷ 0 ∷ 0 ∷ 0 ∷ 1 ∷ 0 ∷ 0 ∷ 0 ∷ 3 ∷ 0 ∷ 0 ∷ 0 ∷ 0 ∷ 0 ∷ 0 ∷ 0 ∷ 1 ∷ 0 ∷ 0 ∷ 0 ∷ 0 ∷ 0 ∷ 0 ∷ 0 ∷ 3 ∷ []) ++ replicate 4071 0) (oral (record { generals = 4; commander = 0; general = 3; round = 1 })) ([]) 2 ≡ Trapped PointerUse
unfolding labels step onwards
pointer_past_the_limit = refl

-- divided_by_zero_64; the verifier: accepted
divided_by_zero_64 : after (i.Arithmetic W64 op.Move 0 (Immediate (pos 5)) ∷ i.Arithmetic W64 op.Div 0 (Immediate (pos 0)) ∷ i.Exit ∷ []) ((4 ∷ 0 ∷ 0 ∷ 0 ∷ 1 ∷ 0 ∷ 0 ∷ 0 ∷ 3 ∷ 0 ∷ 0 ∷ 0 ∷ 0 ∷ 0 ∷ 0 ∷ 0 ∷ 1 ∷ 0 ∷ 0 ∷ 0 ∷ 0 ∷ 0 ∷ 0 ∷ 0 ∷ 3 ∷ []) ++ replicate 4071 0) (oral (record { generals = 4; commander = 0; general = 3; round = 1 })) ([]) 3 ≡ Exited 0 (record { unit = 2; registers = ((Number 0) ∷ (Pointer Context (pos 0)) ∷ (Unset) ∷ (Unset) ∷ (Unset) ∷ (Unset) ∷ (Unset) ∷ (Unset) ∷ (Unset) ∷ (Unset) ∷ (Pointer Stack (pos 0)) ∷ []); cells = (replicate 512 (Empty)); outbox = ([]); entries = []; steps = 3 })
unfolding labels step onwards
divided_by_zero_64 = refl

-- modulo_zero_64; the verifier: accepted
modulo_zero_64 : after (i.LoadImmediate 0 4294967301 ∷ i.Arithmetic W64 op.Mod 0 (Immediate (pos 0)) ∷ i.Exit ∷ []) ((4 ∷ 0 ∷ 0 ∷ 0 ∷ 1 ∷ 0 ∷ 0 ∷ 0 ∷ 3 ∷ 0 ∷ 0 ∷ 0 ∷ 0 ∷ 0 ∷ 0 ∷ 0 ∷ 1 ∷ 0 ∷ 0 ∷ 0 ∷ 0 ∷ 0 ∷ 0 ∷ 0 ∷ 3 ∷ []) ++ replicate 4071 0) (oral (record { generals = 4; commander = 0; general = 3; round = 1 })) ([]) 3 ≡ Exited 4294967301 (record { unit = 3; registers = ((Number 4294967301) ∷ (Pointer Context (pos 0)) ∷ (Unset) ∷ (Unset) ∷ (Unset) ∷ (Unset) ∷ (Unset) ∷ (Unset) ∷ (Unset) ∷ (Unset) ∷ (Pointer Stack (pos 0)) ∷ []); cells = (replicate 512 (Empty)); outbox = ([]); entries = []; steps = 3 })
unfolding labels step onwards
modulo_zero_64 = refl

-- divided_by_zero_32; the verifier: accepted
divided_by_zero_32 : after (i.Arithmetic W64 op.Move 0 (Immediate (pos 5)) ∷ i.Arithmetic W32 op.Div 0 (Immediate (pos 0)) ∷ i.Exit ∷ []) ((4 ∷ 0 ∷ 0 ∷ 0 ∷ 1 ∷ 0 ∷ 0 ∷ 0 ∷ 3 ∷ 0 ∷ 0 ∷ 0 ∷ 0 ∷ 0 ∷ 0 ∷ 0 ∷ 1 ∷ 0 ∷ 0 ∷ 0 ∷ 0 ∷ 0 ∷ 0 ∷ 0 ∷ 3 ∷ []) ++ replicate 4071 0) (oral (record { generals = 4; commander = 0; general = 3; round = 1 })) ([]) 3 ≡ Exited 0 (record { unit = 2; registers = ((Number 0) ∷ (Pointer Context (pos 0)) ∷ (Unset) ∷ (Unset) ∷ (Unset) ∷ (Unset) ∷ (Unset) ∷ (Unset) ∷ (Unset) ∷ (Unset) ∷ (Pointer Stack (pos 0)) ∷ []); cells = (replicate 512 (Empty)); outbox = ([]); entries = []; steps = 3 })
unfolding labels step onwards
divided_by_zero_32 = refl

-- least_divided_by_minus_one_64; the verifier: accepted
least_divided_by_minus_one_64 : after (i.LoadImmediate 0 9223372036854775808 ∷ i.Arithmetic W64 op.SignedDiv 0 (Immediate (negsuc 0)) ∷ i.Exit ∷ []) ((4 ∷ 0 ∷ 0 ∷ 0 ∷ 1 ∷ 0 ∷ 0 ∷ 0 ∷ 3 ∷ 0 ∷ 0 ∷ 0 ∷ 0 ∷ 0 ∷ 0 ∷ 0 ∷ 1 ∷ 0 ∷ 0 ∷ 0 ∷ 0 ∷ 0 ∷ 0 ∷ 0 ∷ 3 ∷ []) ++ replicate 4071 0) (oral (record { generals = 4; commander = 0; general = 3; round = 1 })) ([]) 3 ≡ Exited 9223372036854775808 (record { unit = 3; registers = ((Number 9223372036854775808) ∷ (Pointer Context (pos 0)) ∷ (Unset) ∷ (Unset) ∷ (Unset) ∷ (Unset) ∷ (Unset) ∷ (Unset) ∷ (Unset) ∷ (Unset) ∷ (Pointer Stack (pos 0)) ∷ []); cells = (replicate 512 (Empty)); outbox = ([]); entries = []; steps = 3 })
unfolding labels step onwards
least_divided_by_minus_one_64 = refl

-- least_modulo_minus_one_64; the verifier: accepted
least_modulo_minus_one_64 : after (i.LoadImmediate 0 9223372036854775808 ∷ i.Arithmetic W64 op.SignedMod 0 (Immediate (negsuc 0)) ∷ i.Exit ∷ []) ((4 ∷ 0 ∷ 0 ∷ 0 ∷ 1 ∷ 0 ∷ 0 ∷ 0 ∷ 3 ∷ 0 ∷ 0 ∷ 0 ∷ 0 ∷ 0 ∷ 0 ∷ 0 ∷ 1 ∷ 0 ∷ 0 ∷ 0 ∷ 0 ∷ 0 ∷ 0 ∷ 0 ∷ 3 ∷ []) ++ replicate 4071 0) (oral (record { generals = 4; commander = 0; general = 3; round = 1 })) ([]) 3 ≡ Exited 0 (record { unit = 3; registers = ((Number 0) ∷ (Pointer Context (pos 0)) ∷ (Unset) ∷ (Unset) ∷ (Unset) ∷ (Unset) ∷ (Unset) ∷ (Unset) ∷ (Unset) ∷ (Unset) ∷ (Pointer Stack (pos 0)) ∷ []); cells = (replicate 512 (Empty)); outbox = ([]); entries = []; steps = 3 })
unfolding labels step onwards
least_modulo_minus_one_64 = refl

-- least_divided_by_minus_one_32; the verifier: accepted
least_divided_by_minus_one_32 : after (i.LoadImmediate 0 2147483648 ∷ i.Arithmetic W32 op.SignedDiv 0 (Immediate (negsuc 0)) ∷ i.Exit ∷ []) ((4 ∷ 0 ∷ 0 ∷ 0 ∷ 1 ∷ 0 ∷ 0 ∷ 0 ∷ 3 ∷ 0 ∷ 0 ∷ 0 ∷ 0 ∷ 0 ∷ 0 ∷ 0 ∷ 1 ∷ 0 ∷ 0 ∷ 0 ∷ 0 ∷ 0 ∷ 0 ∷ 0 ∷ 3 ∷ []) ++ replicate 4071 0) (oral (record { generals = 4; commander = 0; general = 3; round = 1 })) ([]) 3 ≡ Exited 2147483648 (record { unit = 3; registers = ((Number 2147483648) ∷ (Pointer Context (pos 0)) ∷ (Unset) ∷ (Unset) ∷ (Unset) ∷ (Unset) ∷ (Unset) ∷ (Unset) ∷ (Unset) ∷ (Unset) ∷ (Pointer Stack (pos 0)) ∷ []); cells = (replicate 512 (Empty)); outbox = ([]); entries = []; steps = 3 })
unfolding labels step onwards
least_divided_by_minus_one_32 = refl

-- least_modulo_minus_one_32; the verifier: accepted
least_modulo_minus_one_32 : after (i.LoadImmediate 0 2147483648 ∷ i.Arithmetic W32 op.SignedMod 0 (Immediate (negsuc 0)) ∷ i.Exit ∷ []) ((4 ∷ 0 ∷ 0 ∷ 0 ∷ 1 ∷ 0 ∷ 0 ∷ 0 ∷ 3 ∷ 0 ∷ 0 ∷ 0 ∷ 0 ∷ 0 ∷ 0 ∷ 0 ∷ 1 ∷ 0 ∷ 0 ∷ 0 ∷ 0 ∷ 0 ∷ 0 ∷ 0 ∷ 3 ∷ []) ++ replicate 4071 0) (oral (record { generals = 4; commander = 0; general = 3; round = 1 })) ([]) 3 ≡ Exited 0 (record { unit = 3; registers = ((Number 0) ∷ (Pointer Context (pos 0)) ∷ (Unset) ∷ (Unset) ∷ (Unset) ∷ (Unset) ∷ (Unset) ∷ (Unset) ∷ (Unset) ∷ (Unset) ∷ (Pointer Stack (pos 0)) ∷ []); cells = (replicate 512 (Empty)); outbox = ([]); entries = []; steps = 3 })
unfolding labels step onwards
least_modulo_minus_one_32 = refl

-- load_of_empty_cells; the verifier: refused V9 unit 0
load_of_empty_cells : after (i.Load size.Double 0 10 (negsuc 7) ∷ i.Exit ∷ []) ((4 ∷ 0 ∷ 0 ∷ 0 ∷ 1 ∷ 0 ∷ 0 ∷ 0 ∷ 3 ∷ 0 ∷ 0 ∷ 0 ∷ 0 ∷ 0 ∷ 0 ∷ 0 ∷ 1 ∷ 0 ∷ 0 ∷ 0 ∷ 0 ∷ 0 ∷ 0 ∷ 0 ∷ 3 ∷ []) ++ replicate 4071 0) (oral (record { generals = 4; commander = 0; general = 3; round = 1 })) ([]) 2 ≡ Trapped NoBytes
unfolding labels step onwards
load_of_empty_cells = refl

-- load_past_one_byte; the verifier: refused V9 unit 1
load_past_one_byte : after (i.Store size.Byte 10 (negsuc 7) (Immediate (pos 1)) ∷ i.Load size.Double 0 10 (negsuc 7) ∷ i.Exit ∷ []) ((4 ∷ 0 ∷ 0 ∷ 0 ∷ 1 ∷ 0 ∷ 0 ∷ 0 ∷ 3 ∷ 0 ∷ 0 ∷ 0 ∷ 0 ∷ 0 ∷ 0 ∷ 0 ∷ 1 ∷ 0 ∷ 0 ∷ 0 ∷ 0 ∷ 0 ∷ 0 ∷ 0 ∷ 3 ∷ []) ++ replicate 4071 0) (oral (record { generals = 4; commander = 0; general = 3; round = 1 })) ([]) 3 ≡ Trapped NoBytes
unfolding labels step onwards
load_past_one_byte = refl

-- load_of_a_part_of_a_pointer; the verifier: refused V9 unit 1
load_of_a_part_of_a_pointer : after (i.Store size.Double 10 (negsuc 7) (Register 1) ∷ i.Load size.Word 0 10 (negsuc 7) ∷ i.Exit ∷ []) ((4 ∷ 0 ∷ 0 ∷ 0 ∷ 1 ∷ 0 ∷ 0 ∷ 0 ∷ 3 ∷ 0 ∷ 0 ∷ 0 ∷ 0 ∷ 0 ∷ 0 ∷ 0 ∷ 1 ∷ 0 ∷ 0 ∷ 0 ∷ 0 ∷ 0 ∷ 0 ∷ 0 ∷ 3 ∷ []) ++ replicate 4071 0) (oral (record { generals = 4; commander = 0; general = 3; round = 1 })) ([]) 3 ≡ Trapped NoBytes
unfolding labels step onwards
load_of_a_part_of_a_pointer = refl

-- load_of_a_pointer; the verifier: accepted
load_of_a_pointer : after (i.Store size.Double 10 (negsuc 7) (Register 1) ∷ i.Load size.Double 2 10 (negsuc 7) ∷ i.Load size.Word 0 2 (pos 0) ∷ i.Exit ∷ []) ((4 ∷ 0 ∷ 0 ∷ 0 ∷ 1 ∷ 0 ∷ 0 ∷ 0 ∷ 3 ∷ 0 ∷ 0 ∷ 0 ∷ 0 ∷ 0 ∷ 0 ∷ 0 ∷ 1 ∷ 0 ∷ 0 ∷ 0 ∷ 0 ∷ 0 ∷ 0 ∷ 0 ∷ 3 ∷ []) ++ replicate 4071 0) (oral (record { generals = 4; commander = 0; general = 3; round = 1 })) ([]) 4 ≡ Exited 4 (record { unit = 3; registers = ((Number 4) ∷ (Pointer Context (pos 0)) ∷ (Pointer Context (pos 0)) ∷ (Unset) ∷ (Unset) ∷ (Unset) ∷ (Unset) ∷ (Unset) ∷ (Unset) ∷ (Unset) ∷ (Pointer Stack (pos 0)) ∷ []); cells = (replicate 504 (Empty) ++ replicate 1 (Piece 0 Context (pos 0)) ++ replicate 1 (Piece 1 Context (pos 0)) ++ replicate 1 (Piece 2 Context (pos 0)) ++ replicate 1 (Piece 3 Context (pos 0)) ++ replicate 1 (Piece 4 Context (pos 0)) ++ replicate 1 (Piece 5 Context (pos 0)) ++ replicate 1 (Piece 6 Context (pos 0)) ++ replicate 1 (Piece 7 Context (pos 0))); outbox = ([]); entries = []; steps = 4 })
unfolding labels step onwards
load_of_a_pointer = refl

-- load_past_the_stack; the verifier: refused V8 unit 0
load_past_the_stack : after (i.Load size.Double 0 10 (negsuc 3) ∷ i.Exit ∷ []) ((4 ∷ 0 ∷ 0 ∷ 0 ∷ 1 ∷ 0 ∷ 0 ∷ 0 ∷ 3 ∷ 0 ∷ 0 ∷ 0 ∷ 0 ∷ 0 ∷ 0 ∷ 0 ∷ 1 ∷ 0 ∷ 0 ∷ 0 ∷ 0 ∷ 0 ∷ 0 ∷ 0 ∷ 3 ∷ []) ++ replicate 4071 0) (oral (record { generals = 4; commander = 0; general = 3; round = 1 })) ([]) 2 ≡ Trapped OutOfBounds
unfolding labels step onwards
load_past_the_stack = refl

-- store_at_a_masked_offset; the verifier: accepted
store_at_a_masked_offset : after (i.Arithmetic W64 op.Move 1 (Immediate (pos 0)) ∷ i.Call (pos 1) ∷ i.Arithmetic W64 op.Move 2 (Register 0) ∷ i.Arithmetic W64 op.And 2 (Immediate (pos 7)) ∷ i.Arithmetic W64 op.Move 3 (Register 10) ∷ i.Arithmetic W64 op.Add 3 (Immediate (negsuc 7)) ∷ i.Arithmetic W64 op.Add 3 (Register 2) ∷ i.Store size.Byte 3 (pos 0) (Immediate (pos 1)) ∷ i.Arithmetic W64 op.Move 0 (Immediate (pos 0)) ∷ i.Exit ∷ []) ((4 ∷ 0 ∷ 0 ∷ 0 ∷ 1 ∷ 0 ∷ 0 ∷ 0 ∷ 3 ∷ 0 ∷ 0 ∷ 0 ∷ 0 ∷ 0 ∷ 0 ∷ 0 ∷ 1 ∷ 0 ∷ 0 ∷ 0 ∷ 0 ∷ 0 ∷ 0 ∷ 0 ∷ 3 ∷ []) ++ replicate 4071 0) (oral (record { generals = 4; commander = 0; general = 3; round = 1 })) ((0 ∷ []) ∷ []) 10 ≡ Exited 0 (record { unit = 9; registers = ((Number 0) ∷ (Unset) ∷ (Number 0) ∷ (Pointer Stack (negsuc 7)) ∷ (Unset) ∷ (Unset) ∷ (Unset) ∷ (Unset) ∷ (Unset) ∷ (Unset) ∷ (Pointer Stack (pos 0)) ∷ []); cells = (replicate 504 (Empty) ++ replicate 1 (Byte 1) ++ replicate 7 (Empty)); outbox = ([]); entries = []; steps = 10 })
unfolding labels step onwards
store_at_a_masked_offset = refl

-- store_at_a_wider_offset; the verifier: refused V8 unit 7
store_at_a_wider_offset : after (i.Arithmetic W64 op.Move 1 (Immediate (pos 0)) ∷ i.Call (pos 1) ∷ i.Arithmetic W64 op.Move 2 (Register 0) ∷ i.Arithmetic W64 op.And 2 (Immediate (pos 15)) ∷ i.Arithmetic W64 op.Move 3 (Register 10) ∷ i.Arithmetic W64 op.Add 3 (Immediate (negsuc 7)) ∷ i.Arithmetic W64 op.Add 3 (Register 2) ∷ i.Store size.Byte 3 (pos 0) (Immediate (pos 1)) ∷ i.Arithmetic W64 op.Move 0 (Immediate (pos 0)) ∷ i.Exit ∷ []) ((4 ∷ 0 ∷ 0 ∷ 0 ∷ 1 ∷ 0 ∷ 0 ∷ 0 ∷ 3 ∷ 0 ∷ 0 ∷ 0 ∷ 0 ∷ 0 ∷ 0 ∷ 0 ∷ 1 ∷ 0 ∷ 0 ∷ 0 ∷ 0 ∷ 0 ∷ 0 ∷ 0 ∷ 3 ∷ []) ++ replicate 4071 0) (oral (record { generals = 4; commander = 0; general = 3; round = 1 })) ((9 ∷ []) ∷ []) 9 ≡ Trapped OutOfBounds
unfolding labels step onwards
store_at_a_wider_offset = refl

-- get_behind_a_test; the verifier: accepted
get_behind_a_test : after (i.Load size.Double 2 1 (pos 32) ∷ i.Arithmetic W64 op.Move 0 (Immediate (pos 0)) ∷ i.Branch W64 c.Above 2 (Immediate (pos 63)) (pos 2) ∷ i.Arithmetic W64 op.Move 1 (Register 2) ∷ i.Call (pos 1) ∷ i.Exit ∷ []) ((4 ∷ 0 ∷ 0 ∷ 0 ∷ 1 ∷ 0 ∷ 0 ∷ 0 ∷ 3 ∷ 0 ∷ 0 ∷ 0 ∷ 0 ∷ 0 ∷ 0 ∷ 0 ∷ 1 ∷ 0 ∷ 0 ∷ 0 ∷ 0 ∷ 0 ∷ 0 ∷ 0 ∷ 3 ∷ []) ++ replicate 4071 0) (oral (record { generals = 4; commander = 0; general = 3; round = 1 })) ((0 ∷ []) ∷ []) 6 ≡ Exited 0 (record { unit = 5; registers = ((Number 0) ∷ (Unset) ∷ (Unset) ∷ (Unset) ∷ (Unset) ∷ (Unset) ∷ (Unset) ∷ (Unset) ∷ (Unset) ∷ (Unset) ∷ (Pointer Stack (pos 0)) ∷ []); cells = (replicate 512 (Empty)); outbox = ([]); entries = []; steps = 6 })
unfolding labels step onwards
get_behind_a_test = refl

-- get_behind_a_narrow_test; the verifier: refused V12 unit 4
get_behind_a_narrow_test : after (i.Load size.Double 2 1 (pos 32) ∷ i.Arithmetic W64 op.Move 0 (Immediate (pos 0)) ∷ i.Branch W32 c.Above 2 (Immediate (pos 63)) (pos 2) ∷ i.Arithmetic W64 op.Move 1 (Register 2) ∷ i.Call (pos 1) ∷ i.Exit ∷ []) ((4 ∷ 0 ∷ 0 ∷ 0 ∷ 1 ∷ 0 ∷ 0 ∷ 0 ∷ 3 ∷ 0 ∷ 0 ∷ 0 ∷ 0 ∷ 0 ∷ 0 ∷ 0 ∷ 2 ∷ 0 ∷ 0 ∷ 0 ∷ 1 ∷ 0 ∷ 0 ∷ 0 ∷ 2 ∷ 0 ∷ 0 ∷ 0 ∷ 0 ∷ 0 ∷ 0 ∷ 0 ∷ 0 ∷ 0 ∷ 0 ∷ 0 ∷ 1 ∷ []) ++ replicate 4059 0) (oral (record { generals = 4; commander = 0; general = 3; round = 2 })) ([]) 6 ≡ Trapped Argument
unfolding labels step onwards
get_behind_a_narrow_test = refl

-- two_sways_without_labels; the verifier: accepted
two_sways_without_labels : after (i.Arithmetic W64 op.Move 1 (Immediate (pos 1)) ∷ i.Arithmetic W64 op.Move 2 (Immediate (pos 0)) ∷ i.Call (pos 8) ∷ i.Arithmetic W64 op.Move 1 (Immediate (pos 2)) ∷ i.Arithmetic W64 op.Move 2 (Immediate (pos 0)) ∷ i.Call (pos 8) ∷ i.Exit ∷ []) ((4 ∷ 0 ∷ 0 ∷ 0 ∷ 1 ∷ 0 ∷ 0 ∷ 0 ∷ 3 ∷ 0 ∷ 0 ∷ 0 ∷ 0 ∷ 0 ∷ 0 ∷ 0 ∷ 1 ∷ 0 ∷ 0 ∷ 0 ∷ 0 ∷ 0 ∷ 0 ∷ 0 ∷ 3 ∷ []) ++ replicate 4071 0) (oral (record { generals = 4; commander = 0; general = 3; round = 1 })) ([]) 7 ≡ Exited 0 (record { unit = 6; registers = ((Number 0) ∷ (Unset) ∷ (Unset) ∷ (Unset) ∷ (Unset) ∷ (Unset) ∷ (Unset) ∷ (Unset) ∷ (Unset) ∷ (Unset) ∷ (Pointer Stack (pos 0)) ∷ []); cells = (replicate 512 (Empty)); outbox = ([]); entries = []; steps = 7 })
unfolding labels step onwards
two_sways_without_labels = refl

-- two_sways; the verifier: accepted
two_sways : after (i.Arithmetic W64 op.Move 1 (Immediate (pos 1)) ∷ i.Arithmetic W64 op.Move 2 (Immediate (pos 0)) ∷ i.Call (pos 8) ∷ i.Arithmetic W64 op.Move 1 (Immediate (pos 2)) ∷ i.Arithmetic W64 op.Move 2 (Immediate (pos 0)) ∷ i.Call (pos 8) ∷ i.Exit ∷ []) ((4 ∷ 0 ∷ 0 ∷ 0 ∷ 1 ∷ 0 ∷ 0 ∷ 0 ∷ 3 ∷ 0 ∷ 0 ∷ 0 ∷ 0 ∷ 0 ∷ 0 ∷ 0 ∷ 2 ∷ 0 ∷ 0 ∷ 0 ∷ 1 ∷ 0 ∷ 0 ∷ 0 ∷ 2 ∷ 0 ∷ 0 ∷ 0 ∷ 0 ∷ 0 ∷ 0 ∷ 0 ∷ 1 ∷ []) ++ replicate 4063 0) (oral (record { generals = 4; commander = 0; general = 3; round = 2 })) ([]) 7 ≡ Exited 1 (record { unit = 6; registers = ((Number 1) ∷ (Unset) ∷ (Unset) ∷ (Unset) ∷ (Unset) ∷ (Unset) ∷ (Unset) ∷ (Unset) ∷ (Unset) ∷ (Unset) ∷ (Pointer Stack (pos 0)) ∷ []); cells = (replicate 512 (Empty)); outbox = ((Some 0 ∷ Some 0 ∷ []) ∷ []); entries = []; steps = 7 })
unfolding labels step onwards
two_sways = refl

-- odd_orders_of_the_commander; the verifier: accepted
odd_orders_of_the_commander : after (i.Arithmetic W64 op.Move 1 (Immediate (pos 0)) ∷ i.Arithmetic W64 op.Move 2 (Immediate (pos 1)) ∷ i.Call (pos 3) ∷ i.Arithmetic W64 op.Move 6 (Register 0) ∷ i.Arithmetic W64 op.And 6 (Immediate (pos 1)) ∷ i.Arithmetic W64 op.Move 1 (Immediate (pos 1)) ∷ i.Arithmetic W64 op.Move 2 (Register 6) ∷ i.Call (pos 8) ∷ i.Arithmetic W64 op.Move 1 (Immediate (pos 2)) ∷ i.Arithmetic W64 op.Move 2 (Register 6) ∷ i.Call (pos 8) ∷ i.Arithmetic W64 op.Move 1 (Immediate (pos 3)) ∷ i.Arithmetic W64 op.Move 2 (Register 6) ∷ i.Call (pos 8) ∷ i.Exit ∷ []) ((7 ∷ 0 ∷ 0 ∷ 0 ∷ 2 ∷ 0 ∷ 0 ∷ 0 ∷ 0 ∷ 0 ∷ 0 ∷ 0 ∷ 0 ∷ 0 ∷ 0 ∷ 0 ∷ 1 ∷ 0 ∷ 0 ∷ 0 ∷ 1 ∷ 0 ∷ 0 ∷ 0 ∷ 6 ∷ []) ++ replicate 4071 0) (oral (record { generals = 7; commander = 0; general = 0; round = 1 })) ((3 ∷ []) ∷ []) 15 ≡ Exited 1 (record { unit = 14; registers = ((Number 1) ∷ (Unset) ∷ (Unset) ∷ (Unset) ∷ (Unset) ∷ (Unset) ∷ (Number 1) ∷ (Unset) ∷ (Unset) ∷ (Unset) ∷ (Pointer Stack (pos 0)) ∷ []); cells = (replicate 512 (Empty)); outbox = ((Some 1 ∷ Some 1 ∷ Some 1 ∷ None ∷ None ∷ None ∷ []) ∷ []); entries = []; steps = 15 })
unfolding labels step onwards
odd_orders_of_the_commander = refl

-- odd_orders_of_a_general; the verifier: accepted
odd_orders_of_a_general : after (i.Arithmetic W64 op.Move 1 (Immediate (pos 0)) ∷ i.Arithmetic W64 op.Move 2 (Immediate (pos 1)) ∷ i.Call (pos 3) ∷ i.Arithmetic W64 op.Move 6 (Register 0) ∷ i.Arithmetic W64 op.And 6 (Immediate (pos 1)) ∷ i.Arithmetic W64 op.Move 1 (Immediate (pos 1)) ∷ i.Arithmetic W64 op.Move 2 (Register 6) ∷ i.Call (pos 8) ∷ i.Arithmetic W64 op.Move 1 (Immediate (pos 2)) ∷ i.Arithmetic W64 op.Move 2 (Register 6) ∷ i.Call (pos 8) ∷ i.Arithmetic W64 op.Move 1 (Immediate (pos 3)) ∷ i.Arithmetic W64 op.Move 2 (Register 6) ∷ i.Call (pos 8) ∷ i.Exit ∷ []) ((7 ∷ 0 ∷ 0 ∷ 0 ∷ 2 ∷ 0 ∷ 0 ∷ 0 ∷ 4 ∷ 0 ∷ 0 ∷ 0 ∷ 0 ∷ 0 ∷ 0 ∷ 0 ∷ 3 ∷ 0 ∷ 0 ∷ 0 ∷ 5 ∷ 0 ∷ 0 ∷ 0 ∷ 4 ∷ 0 ∷ 0 ∷ 0 ∷ 0 ∷ 0 ∷ 0 ∷ 0 ∷ 1 ∷ 0 ∷ 0 ∷ 0 ∷ 1 ∷ 0 ∷ 0 ∷ 0 ∷ 0 ∷ 0 ∷ 0 ∷ 0 ∷ 0 ∷ 0 ∷ 0 ∷ 0 ∷ 1 ∷ []) ++ replicate 4047 0) (oral (record { generals = 7; commander = 0; general = 4; round = 3 })) ((3 ∷ []) ∷ []) 15 ≡ Exited 4 (record { unit = 14; registers = ((Number 4) ∷ (Unset) ∷ (Unset) ∷ (Unset) ∷ (Unset) ∷ (Unset) ∷ (Number 1) ∷ (Unset) ∷ (Unset) ∷ (Unset) ∷ (Pointer Stack (pos 0)) ∷ []); cells = (replicate 512 (Empty)); outbox = ((Some 1 ∷ Some 1 ∷ None ∷ None ∷ []) ∷ (Some 1 ∷ Some 1 ∷ None ∷ None ∷ []) ∷ (Some 1 ∷ Some 1 ∷ None ∷ None ∷ []) ∷ (Some 1 ∷ Some 1 ∷ Some 1 ∷ None ∷ []) ∷ (Some 1 ∷ Some 1 ∷ Some 1 ∷ None ∷ []) ∷ []); entries = []; steps = 15 })
unfolding labels step onwards
odd_orders_of_a_general = refl

-- swap_and_get; the verifier: accepted
swap_and_get : after (i.Arithmetic W64 op.Move 1 (Immediate (pos 5)) ∷ i.Arithmetic W64 op.Move 2 (Immediate (pos 1)) ∷ i.Call (pos 2) ∷ i.Arithmetic W64 op.Move 1 (Immediate (pos 6)) ∷ i.Call (pos 1) ∷ i.Exit ∷ []) ((7 ∷ 0 ∷ 0 ∷ 0 ∷ 2 ∷ 0 ∷ 0 ∷ 0 ∷ 5 ∷ 0 ∷ 0 ∷ 0 ∷ 0 ∷ 0 ∷ 0 ∷ 0 ∷ 1 ∷ 0 ∷ 0 ∷ 0 ∷ 0 ∷ 0 ∷ 0 ∷ 0 ∷ 6 ∷ []) ++ replicate 4071 0) (oral (record { generals = 7; commander = 0; general = 5; round = 1 })) ((0 ∷ []) ∷ (1 ∷ []) ∷ []) 6 ≡ Exited 1 (record { unit = 5; registers = ((Number 1) ∷ (Unset) ∷ (Unset) ∷ (Unset) ∷ (Unset) ∷ (Unset) ∷ (Unset) ∷ (Unset) ∷ (Unset) ∷ (Unset) ∷ (Pointer Stack (pos 0)) ∷ []); cells = (replicate 512 (Empty)); outbox = ([]); entries = []; steps = 6 })
unfolding labels step onwards
swap_and_get = refl

-- wrapping_sum; the verifier: accepted
wrapping_sum : after (i.Arithmetic W64 op.Move 0 (Immediate (negsuc 0)) ∷ i.Arithmetic W64 op.Add 0 (Immediate (pos 2)) ∷ i.Exit ∷ []) ((4 ∷ 0 ∷ 0 ∷ 0 ∷ 1 ∷ 0 ∷ 0 ∷ 0 ∷ 3 ∷ 0 ∷ 0 ∷ 0 ∷ 0 ∷ 0 ∷ 0 ∷ 0 ∷ 1 ∷ 0 ∷ 0 ∷ 0 ∷ 0 ∷ 0 ∷ 0 ∷ 0 ∷ 3 ∷ []) ++ replicate 4071 0) (oral (record { generals = 4; commander = 0; general = 3; round = 1 })) ([]) 3 ≡ Exited 1 (record { unit = 2; registers = ((Number 1) ∷ (Pointer Context (pos 0)) ∷ (Unset) ∷ (Unset) ∷ (Unset) ∷ (Unset) ∷ (Unset) ∷ (Unset) ∷ (Unset) ∷ (Unset) ∷ (Pointer Stack (pos 0)) ∷ []); cells = (replicate 512 (Empty)); outbox = ([]); entries = []; steps = 3 })
unfolding labels step onwards
wrapping_sum = refl

-- frame_written; the verifier: refused V6 unit 0
frame_written : after (i.Arithmetic W64 op.Move 10 (Immediate (pos 0)) ∷ i.Exit ∷ []) ((4 ∷ 0 ∷ 0 ∷ 0 ∷ 1 ∷ 0 ∷ 0 ∷ 0 ∷ 3 ∷ 0 ∷ 0 ∷ 0 ∷ 0 ∷ 0 ∷ 0 ∷ 0 ∷ 1 ∷ 0 ∷ 0 ∷ 0 ∷ 0 ∷ 0 ∷ 0 ∷ 0 ∷ 3 ∷ []) ++ replicate 4071 0) (oral (record { generals = 4; commander = 0; general = 3; round = 1 })) ([]) 2 ≡ Trapped FrameWrite
unfolding labels step onwards
frame_written = refl

-- context_pointer_returned; the verifier: refused V13 unit 1
context_pointer_returned : after (i.Arithmetic W64 op.Move 0 (Register 1) ∷ i.Exit ∷ []) ((4 ∷ 0 ∷ 0 ∷ 0 ∷ 1 ∷ 0 ∷ 0 ∷ 0 ∷ 3 ∷ 0 ∷ 0 ∷ 0 ∷ 0 ∷ 0 ∷ 0 ∷ 0 ∷ 1 ∷ 0 ∷ 0 ∷ 0 ∷ 0 ∷ 0 ∷ 0 ∷ 0 ∷ 3 ∷ []) ++ replicate 4071 0) (oral (record { generals = 4; commander = 0; general = 3; round = 1 })) ([]) 3 ≡ Trapped PointerUse
unfolding labels step onwards
context_pointer_returned = refl

-- signed_modulo; the verifier: accepted
signed_modulo : after (i.Arithmetic W64 op.Move 0 (Immediate (negsuc 12)) ∷ i.Arithmetic W64 op.SignedMod 0 (Immediate (pos 3)) ∷ i.Exit ∷ []) ((4 ∷ 0 ∷ 0 ∷ 0 ∷ 1 ∷ 0 ∷ 0 ∷ 0 ∷ 3 ∷ 0 ∷ 0 ∷ 0 ∷ 0 ∷ 0 ∷ 0 ∷ 0 ∷ 1 ∷ 0 ∷ 0 ∷ 0 ∷ 0 ∷ 0 ∷ 0 ∷ 0 ∷ 3 ∷ []) ++ replicate 4071 0) (oral (record { generals = 4; commander = 0; general = 3; round = 1 })) ([]) 3 ≡ Exited 18446744073709551615 (record { unit = 2; registers = ((Number 18446744073709551615) ∷ (Pointer Context (pos 0)) ∷ (Unset) ∷ (Unset) ∷ (Unset) ∷ (Unset) ∷ (Unset) ∷ (Unset) ∷ (Unset) ∷ (Unset) ∷ (Pointer Stack (pos 0)) ∷ []); cells = (replicate 512 (Empty)); outbox = ([]); entries = []; steps = 3 })
unfolding labels step onwards
signed_modulo = refl

-- modulo_zero_cuts; the verifier: accepted
modulo_zero_cuts : after (i.LoadImmediate 0 4294967301 ∷ i.Arithmetic W32 op.Mod 0 (Immediate (pos 0)) ∷ i.Exit ∷ []) ((4 ∷ 0 ∷ 0 ∷ 0 ∷ 1 ∷ 0 ∷ 0 ∷ 0 ∷ 3 ∷ 0 ∷ 0 ∷ 0 ∷ 0 ∷ 0 ∷ 0 ∷ 0 ∷ 1 ∷ 0 ∷ 0 ∷ 0 ∷ 0 ∷ 0 ∷ 0 ∷ 0 ∷ 3 ∷ []) ++ replicate 4071 0) (oral (record { generals = 4; commander = 0; general = 3; round = 1 })) ([]) 3 ≡ Exited 5 (record { unit = 3; registers = ((Number 5) ∷ (Pointer Context (pos 0)) ∷ (Unset) ∷ (Unset) ∷ (Unset) ∷ (Unset) ∷ (Unset) ∷ (Unset) ∷ (Unset) ∷ (Unset) ∷ (Pointer Stack (pos 0)) ∷ []); cells = (replicate 512 (Empty)); outbox = ([]); entries = []; steps = 3 })
unfolding labels step onwards
modulo_zero_cuts = refl

-- shift_by_65; the verifier: accepted
shift_by_65 : after (i.Arithmetic W64 op.Move 0 (Immediate (pos 1)) ∷ i.Arithmetic W64 op.ShiftLeft 0 (Immediate (pos 65)) ∷ i.Exit ∷ []) ((4 ∷ 0 ∷ 0 ∷ 0 ∷ 1 ∷ 0 ∷ 0 ∷ 0 ∷ 3 ∷ 0 ∷ 0 ∷ 0 ∷ 0 ∷ 0 ∷ 0 ∷ 0 ∷ 1 ∷ 0 ∷ 0 ∷ 0 ∷ 0 ∷ 0 ∷ 0 ∷ 0 ∷ 3 ∷ []) ++ replicate 4071 0) (oral (record { generals = 4; commander = 0; general = 3; round = 1 })) ([]) 3 ≡ Exited 2 (record { unit = 2; registers = ((Number 2) ∷ (Pointer Context (pos 0)) ∷ (Unset) ∷ (Unset) ∷ (Unset) ∷ (Unset) ∷ (Unset) ∷ (Unset) ∷ (Unset) ∷ (Unset) ∷ (Pointer Stack (pos 0)) ∷ []); cells = (replicate 512 (Empty)); outbox = ([]); entries = []; steps = 3 })
unfolding labels step onwards
shift_by_65 = refl

-- two_bytes_big_end_first; the verifier: accepted
two_bytes_big_end_first : after (i.LoadImmediate 0 1234605616436508552 ∷ i.Swap order.Big swap.Half 0 ∷ i.Exit ∷ []) ((4 ∷ 0 ∷ 0 ∷ 0 ∷ 1 ∷ 0 ∷ 0 ∷ 0 ∷ 3 ∷ 0 ∷ 0 ∷ 0 ∷ 0 ∷ 0 ∷ 0 ∷ 0 ∷ 1 ∷ 0 ∷ 0 ∷ 0 ∷ 0 ∷ 0 ∷ 0 ∷ 0 ∷ 3 ∷ []) ++ replicate 4071 0) (oral (record { generals = 4; commander = 0; general = 3; round = 1 })) ([]) 3 ≡ Exited 34935 (record { unit = 3; registers = ((Number 34935) ∷ (Pointer Context (pos 0)) ∷ (Unset) ∷ (Unset) ∷ (Unset) ∷ (Unset) ∷ (Unset) ∷ (Unset) ∷ (Unset) ∷ (Unset) ∷ (Pointer Stack (pos 0)) ∷ []); cells = (replicate 512 (Empty)); outbox = ([]); entries = []; steps = 3 })
unfolding labels step onwards
two_bytes_big_end_first = refl

-- signed_jump; the verifier: accepted
signed_jump : after (i.Arithmetic W64 op.Move 0 (Immediate (pos 1)) ∷ i.Arithmetic W64 op.Move 1 (Immediate (negsuc 0)) ∷ i.Branch W64 c.SignedAbove 0 (Register 1) (pos 1) ∷ i.Arithmetic W64 op.Move 0 (Immediate (pos 7)) ∷ i.Exit ∷ []) ((4 ∷ 0 ∷ 0 ∷ 0 ∷ 1 ∷ 0 ∷ 0 ∷ 0 ∷ 3 ∷ 0 ∷ 0 ∷ 0 ∷ 0 ∷ 0 ∷ 0 ∷ 0 ∷ 1 ∷ 0 ∷ 0 ∷ 0 ∷ 0 ∷ 0 ∷ 0 ∷ 0 ∷ 3 ∷ []) ++ replicate 4071 0) (oral (record { generals = 4; commander = 0; general = 3; round = 1 })) ([]) 5 ≡ Exited 1 (record { unit = 4; registers = ((Number 1) ∷ (Number 18446744073709551615) ∷ (Unset) ∷ (Unset) ∷ (Unset) ∷ (Unset) ∷ (Unset) ∷ (Unset) ∷ (Unset) ∷ (Unset) ∷ (Pointer Stack (pos 0)) ∷ []); cells = (replicate 512 (Empty)); outbox = ([]); entries = []; steps = 4 })
unfolding labels step onwards
signed_jump = refl

-- byte_extended; the verifier: accepted
byte_extended : after (i.Arithmetic W64 op.Move 1 (Immediate (pos 128)) ∷ i.SignExtend W64 narrow.Byte 0 1 ∷ i.Exit ∷ []) ((4 ∷ 0 ∷ 0 ∷ 0 ∷ 1 ∷ 0 ∷ 0 ∷ 0 ∷ 3 ∷ 0 ∷ 0 ∷ 0 ∷ 0 ∷ 0 ∷ 0 ∷ 0 ∷ 1 ∷ 0 ∷ 0 ∷ 0 ∷ 0 ∷ 0 ∷ 0 ∷ 0 ∷ 3 ∷ []) ++ replicate 4071 0) (oral (record { generals = 4; commander = 0; general = 3; round = 1 })) ([]) 3 ≡ Exited 18446744073709551488 (record { unit = 2; registers = ((Number 18446744073709551488) ∷ (Number 128) ∷ (Unset) ∷ (Unset) ∷ (Unset) ∷ (Unset) ∷ (Unset) ∷ (Unset) ∷ (Unset) ∷ (Unset) ∷ (Pointer Stack (pos 0)) ∷ []); cells = (replicate 512 (Empty)); outbox = ([]); entries = []; steps = 3 })
unfolding labels step onwards
byte_extended = refl

-- store_behind_a_test; the verifier: accepted
store_behind_a_test : after (i.Load size.Double 2 1 (pos 32) ∷ i.Arithmetic W64 op.Move 0 (Immediate (pos 0)) ∷ i.Branch W64 c.Above 2 (Immediate (pos 7)) (pos 4) ∷ i.Arithmetic W64 op.Move 3 (Register 10) ∷ i.Arithmetic W64 op.Add 3 (Immediate (negsuc 7)) ∷ i.Arithmetic W64 op.Add 3 (Register 2) ∷ i.Store size.Byte 3 (pos 0) (Immediate (pos 1)) ∷ i.Exit ∷ []) ((4 ∷ 0 ∷ 0 ∷ 0 ∷ 1 ∷ 0 ∷ 0 ∷ 0 ∷ 3 ∷ 0 ∷ 0 ∷ 0 ∷ 0 ∷ 0 ∷ 0 ∷ 0 ∷ 1 ∷ 0 ∷ 0 ∷ 0 ∷ 0 ∷ 0 ∷ 0 ∷ 0 ∷ 3 ∷ []) ++ replicate 4071 0) (oral (record { generals = 4; commander = 0; general = 3; round = 1 })) ([]) 8 ≡ Exited 0 (record { unit = 7; registers = ((Number 0) ∷ (Pointer Context (pos 0)) ∷ (Number 0) ∷ (Pointer Stack (negsuc 7)) ∷ (Unset) ∷ (Unset) ∷ (Unset) ∷ (Unset) ∷ (Unset) ∷ (Unset) ∷ (Pointer Stack (pos 0)) ∷ []); cells = (replicate 504 (Empty) ++ replicate 1 (Byte 1) ++ replicate 7 (Empty)); outbox = ([]); entries = []; steps = 8 })
unfolding labels step onwards
store_behind_a_test = refl

-- store_behind_a_narrow_test; the verifier: refused V7 unit 5
store_behind_a_narrow_test : after (i.Load size.Double 2 1 (pos 32) ∷ i.Arithmetic W64 op.Move 0 (Immediate (pos 0)) ∷ i.Branch W32 c.Above 2 (Immediate (pos 7)) (pos 4) ∷ i.Arithmetic W64 op.Move 3 (Register 10) ∷ i.Arithmetic W64 op.Add 3 (Immediate (negsuc 7)) ∷ i.Arithmetic W64 op.Add 3 (Register 2) ∷ i.Store size.Byte 3 (pos 0) (Immediate (pos 1)) ∷ i.Exit ∷ []) ((4 ∷ 0 ∷ 0 ∷ 0 ∷ 1 ∷ 0 ∷ 0 ∷ 0 ∷ 3 ∷ 0 ∷ 0 ∷ 0 ∷ 0 ∷ 0 ∷ 0 ∷ 0 ∷ 2 ∷ 0 ∷ 0 ∷ 0 ∷ 1 ∷ 0 ∷ 0 ∷ 0 ∷ 2 ∷ 0 ∷ 0 ∷ 0 ∷ 0 ∷ 0 ∷ 0 ∷ 0 ∷ 0 ∷ 0 ∷ 0 ∷ 0 ∷ 1 ∷ []) ++ replicate 4059 0) (oral (record { generals = 4; commander = 0; general = 3; round = 2 })) ([]) 7 ≡ Trapped PointerUse
unfolding labels step onwards
store_behind_a_narrow_test = refl

-- context_stored_to; the verifier: refused V10 unit 0
context_stored_to : after (i.Store size.Byte 1 (pos 0) (Immediate (pos 1)) ∷ i.Exit ∷ []) ((4 ∷ 0 ∷ 0 ∷ 0 ∷ 1 ∷ 0 ∷ 0 ∷ 0 ∷ 3 ∷ 0 ∷ 0 ∷ 0 ∷ 0 ∷ 0 ∷ 0 ∷ 0 ∷ 1 ∷ 0 ∷ 0 ∷ 0 ∷ 0 ∷ 0 ∷ 0 ∷ 0 ∷ 3 ∷ []) ++ replicate 4071 0) (oral (record { generals = 4; commander = 0; general = 3; round = 1 })) ([]) 2 ≡ Trapped ContextWrite
unfolding labels step onwards
context_stored_to = refl

-- pointer_returned; the verifier: refused V13 unit 1
pointer_returned : after (i.Arithmetic W64 op.Move 0 (Register 1) ∷ i.Exit ∷ []) ((4 ∷ 0 ∷ 0 ∷ 0 ∷ 1 ∷ 0 ∷ 0 ∷ 0 ∷ 3 ∷ 0 ∷ 0 ∷ 0 ∷ 0 ∷ 0 ∷ 0 ∷ 0 ∷ 1 ∷ 0 ∷ 0 ∷ 0 ∷ 0 ∷ 0 ∷ 0 ∷ 0 ∷ 3 ∷ []) ++ replicate 4071 0) (oral (record { generals = 4; commander = 0; general = 3; round = 1 })) ([]) 3 ≡ Trapped PointerUse
unfolding labels step onwards
pointer_returned = refl

-- slot_64; the verifier: refused V12 unit 1
slot_64 : after (i.Arithmetic W64 op.Move 1 (Immediate (pos 64)) ∷ i.Call (pos 1) ∷ i.Exit ∷ []) ((4 ∷ 0 ∷ 0 ∷ 0 ∷ 1 ∷ 0 ∷ 0 ∷ 0 ∷ 3 ∷ 0 ∷ 0 ∷ 0 ∷ 0 ∷ 0 ∷ 0 ∷ 0 ∷ 1 ∷ 0 ∷ 0 ∷ 0 ∷ 0 ∷ 0 ∷ 0 ∷ 0 ∷ 3 ∷ []) ++ replicate 4071 0) (oral (record { generals = 4; commander = 0; general = 3; round = 1 })) ([]) 3 ≡ Trapped Argument
unfolding labels step onwards
slot_64 = refl

-- helper_1000; the verifier: refused V11 unit 1
helper_1000 : after (i.Arithmetic W64 op.Move 1 (Immediate (pos 0)) ∷ i.Call (pos 1000) ∷ i.Exit ∷ []) ((4 ∷ 0 ∷ 0 ∷ 0 ∷ 1 ∷ 0 ∷ 0 ∷ 0 ∷ 3 ∷ 0 ∷ 0 ∷ 0 ∷ 0 ∷ 0 ∷ 0 ∷ 0 ∷ 1 ∷ 0 ∷ 0 ∷ 0 ∷ 0 ∷ 0 ∷ 0 ∷ 0 ∷ 3 ∷ []) ++ replicate 4071 0) (oral (record { generals = 4; commander = 0; general = 3; round = 1 })) ([]) 3 ≡ Trapped NoHelper
unfolding labels step onwards
helper_1000 = refl

-- copy_to_the_stack; the verifier: accepted
copy_to_the_stack : after (i.Arithmetic W64 op.Move 1 (Immediate (pos 60)) ∷ i.Arithmetic W64 op.Move 2 (Register 10) ∷ i.Arithmetic W64 op.Add 2 (Immediate (negsuc 31)) ∷ i.Arithmetic W64 op.Move 3 (Immediate (pos 4)) ∷ i.Call (pos 5) ∷ i.Load size.Double 0 10 (negsuc 31) ∷ i.Exit ∷ []) ((4 ∷ 0 ∷ 0 ∷ 0 ∷ 1 ∷ 0 ∷ 0 ∷ 0 ∷ 3 ∷ 0 ∷ 0 ∷ 0 ∷ 0 ∷ 0 ∷ 0 ∷ 0 ∷ 1 ∷ 0 ∷ 0 ∷ 0 ∷ 0 ∷ 0 ∷ 0 ∷ 0 ∷ 3 ∷ []) ++ replicate 4071 0) (oral (record { generals = 4; commander = 0; general = 3; round = 1 })) ((7 ∷ 9223372036854775809 ∷ 3 ∷ 18446744073709551615 ∷ []) ∷ []) 7 ≡ Exited 7 (record { unit = 6; registers = ((Number 7) ∷ (Unset) ∷ (Unset) ∷ (Unset) ∷ (Unset) ∷ (Unset) ∷ (Unset) ∷ (Unset) ∷ (Unset) ∷ (Unset) ∷ (Pointer Stack (pos 0)) ∷ []); cells = (replicate 480 (Empty) ++ replicate 1 (Byte 7) ++ replicate 7 (Byte 0) ++ replicate 1 (Byte 1) ++ replicate 6 (Byte 0) ++ replicate 1 (Byte 128) ++ replicate 1 (Byte 3) ++ replicate 7 (Byte 0) ++ replicate 8 (Byte 255)); outbox = ([]); entries = []; steps = 7 })
unfolding labels step onwards
copy_to_the_stack = refl

-- copy_past_the_board; the verifier: refused V12 unit 4
copy_past_the_board : after (i.Arithmetic W64 op.Move 1 (Immediate (pos 60)) ∷ i.Arithmetic W64 op.Move 2 (Register 10) ∷ i.Arithmetic W64 op.Add 2 (Immediate (negsuc 31)) ∷ i.Arithmetic W64 op.Move 3 (Immediate (pos 5)) ∷ i.Call (pos 5) ∷ i.Load size.Double 0 10 (negsuc 31) ∷ i.Exit ∷ []) ((4 ∷ 0 ∷ 0 ∷ 0 ∷ 1 ∷ 0 ∷ 0 ∷ 0 ∷ 3 ∷ 0 ∷ 0 ∷ 0 ∷ 0 ∷ 0 ∷ 0 ∷ 0 ∷ 1 ∷ 0 ∷ 0 ∷ 0 ∷ 0 ∷ 0 ∷ 0 ∷ 0 ∷ 3 ∷ []) ++ replicate 4071 0) (oral (record { generals = 4; commander = 0; general = 3; round = 1 })) ([]) 6 ≡ Trapped Argument
unfolding labels step onwards
copy_past_the_board = refl

-- copy_past_the_stack; the verifier: refused V8 unit 4
copy_past_the_stack : after (i.Arithmetic W64 op.Move 1 (Immediate (pos 60)) ∷ i.Arithmetic W64 op.Move 2 (Register 10) ∷ i.Arithmetic W64 op.Add 2 (Immediate (negsuc 23)) ∷ i.Arithmetic W64 op.Move 3 (Immediate (pos 4)) ∷ i.Call (pos 5) ∷ i.Load size.Double 0 10 (negsuc 31) ∷ i.Exit ∷ []) ((4 ∷ 0 ∷ 0 ∷ 0 ∷ 1 ∷ 0 ∷ 0 ∷ 0 ∷ 3 ∷ 0 ∷ 0 ∷ 0 ∷ 0 ∷ 0 ∷ 0 ∷ 0 ∷ 1 ∷ 0 ∷ 0 ∷ 0 ∷ 0 ∷ 0 ∷ 0 ∷ 0 ∷ 3 ∷ []) ++ replicate 4071 0) (oral (record { generals = 4; commander = 0; general = 3; round = 1 })) ([]) 6 ≡ Trapped OutOfBounds
unfolding labels step onwards
copy_past_the_stack = refl

-- compare_and_swap; the verifier: accepted
compare_and_swap : after (i.Arithmetic W64 op.Move 1 (Immediate (pos 0)) ∷ i.Arithmetic W64 op.Move 2 (Immediate (pos 5)) ∷ i.Call (pos 2) ∷ i.Arithmetic W64 op.Move 1 (Immediate (pos 0)) ∷ i.Arithmetic W64 op.Move 2 (Immediate (pos 5)) ∷ i.Arithmetic W64 op.Move 3 (Immediate (pos 9)) ∷ i.Call (pos 4) ∷ i.Arithmetic W64 op.Move 1 (Immediate (pos 0)) ∷ i.Call (pos 1) ∷ i.Exit ∷ []) ((4 ∷ 0 ∷ 0 ∷ 0 ∷ 1 ∷ 0 ∷ 0 ∷ 0 ∷ 3 ∷ 0 ∷ 0 ∷ 0 ∷ 0 ∷ 0 ∷ 0 ∷ 0 ∷ 1 ∷ 0 ∷ 0 ∷ 0 ∷ 0 ∷ 0 ∷ 0 ∷ 0 ∷ 3 ∷ []) ++ replicate 4071 0) (oral (record { generals = 4; commander = 0; general = 3; round = 1 })) ((0 ∷ []) ∷ (5 ∷ []) ∷ (9 ∷ []) ∷ []) 10 ≡ Exited 9 (record { unit = 9; registers = ((Number 9) ∷ (Unset) ∷ (Unset) ∷ (Unset) ∷ (Unset) ∷ (Unset) ∷ (Unset) ∷ (Unset) ∷ (Unset) ∷ (Unset) ∷ (Pointer Stack (pos 0)) ∷ []); cells = (replicate 512 (Empty)); outbox = ([]); entries = []; steps = 10 })
unfolding labels step onwards
compare_and_swap = refl

-- send_without_place; the verifier: accepted
send_without_place : after (i.Arithmetic W64 op.Move 1 (Immediate (pos 0)) ∷ i.Arithmetic W64 op.Move 2 (Immediate (pos 1)) ∷ i.Arithmetic W64 op.Move 3 (Immediate (pos 1)) ∷ i.Call (pos 6) ∷ i.Exit ∷ []) ((4 ∷ 0 ∷ 0 ∷ 0 ∷ 1 ∷ 0 ∷ 0 ∷ 0 ∷ 3 ∷ 0 ∷ 0 ∷ 0 ∷ 0 ∷ 0 ∷ 0 ∷ 0 ∷ 1 ∷ 0 ∷ 0 ∷ 0 ∷ 0 ∷ 0 ∷ 0 ∷ 0 ∷ 3 ∷ []) ++ replicate 4071 0) (oral (record { generals = 4; commander = 0; general = 3; round = 1 })) ([]) 5 ≡ Exited 1 (record { unit = 4; registers = ((Number 1) ∷ (Unset) ∷ (Unset) ∷ (Unset) ∷ (Unset) ∷ (Unset) ∷ (Unset) ∷ (Unset) ∷ (Unset) ∷ (Unset) ∷ (Pointer Stack (pos 0)) ∷ []); cells = (replicate 512 (Empty)); outbox = ([]); entries = []; steps = 5 })
unfolding labels step onwards
send_without_place = refl

-- store_at_a_known_bit; the verifier: accepted
store_at_a_known_bit : after (i.Load size.Double 2 1 (pos 32) ∷ i.Arithmetic W64 op.And 2 (Immediate (pos 8)) ∷ i.Arithmetic W64 op.Xor 2 (Immediate (pos 8)) ∷ i.Arithmetic W64 op.Move 3 (Register 10) ∷ i.Arithmetic W64 op.Add 3 (Immediate (negsuc 8)) ∷ i.Arithmetic W64 op.Add 3 (Register 2) ∷ i.Store size.Byte 3 (pos 0) (Immediate (pos 1)) ∷ i.Arithmetic W64 op.Move 0 (Immediate (pos 0)) ∷ i.Exit ∷ []) ((4 ∷ 0 ∷ 0 ∷ 0 ∷ 1 ∷ 0 ∷ 0 ∷ 0 ∷ 3 ∷ 0 ∷ 0 ∷ 0 ∷ 0 ∷ 0 ∷ 0 ∷ 0 ∷ 1 ∷ 0 ∷ 0 ∷ 0 ∷ 0 ∷ 0 ∷ 0 ∷ 0 ∷ 3 ∷ []) ++ replicate 4071 0) (oral (record { generals = 4; commander = 0; general = 3; round = 1 })) ([]) 9 ≡ Exited 0 (record { unit = 8; registers = ((Number 0) ∷ (Pointer Context (pos 0)) ∷ (Number 8) ∷ (Pointer Stack (negsuc 0)) ∷ (Unset) ∷ (Unset) ∷ (Unset) ∷ (Unset) ∷ (Unset) ∷ (Unset) ∷ (Pointer Stack (pos 0)) ∷ []); cells = (replicate 511 (Empty) ++ replicate 1 (Byte 1)); outbox = ([]); entries = []; steps = 9 })
unfolding labels step onwards
store_at_a_known_bit = refl

-- jump_never_taken; the verifier: accepted
jump_never_taken : after (i.Load size.Double 2 1 (pos 32) ∷ i.Arithmetic W64 op.And 2 (Immediate (pos 8)) ∷ i.Arithmetic W64 op.Xor 2 (Immediate (pos 8)) ∷ i.Arithmetic W64 op.Move 0 (Immediate (pos 0)) ∷ i.Branch W64 c.Above 2 (Immediate (pos 8)) (pos 1) ∷ i.Exit ∷ i.Load size.Double 0 10 (negsuc 7) ∷ i.Exit ∷ []) ((4 ∷ 0 ∷ 0 ∷ 0 ∷ 1 ∷ 0 ∷ 0 ∷ 0 ∷ 3 ∷ 0 ∷ 0 ∷ 0 ∷ 0 ∷ 0 ∷ 0 ∷ 0 ∷ 1 ∷ 0 ∷ 0 ∷ 0 ∷ 0 ∷ 0 ∷ 0 ∷ 0 ∷ 3 ∷ []) ++ replicate 4071 0) (oral (record { generals = 4; commander = 0; general = 3; round = 1 })) ([]) 8 ≡ Exited 0 (record { unit = 5; registers = ((Number 0) ∷ (Pointer Context (pos 0)) ∷ (Number 8) ∷ (Unset) ∷ (Unset) ∷ (Unset) ∷ (Unset) ∷ (Unset) ∷ (Unset) ∷ (Unset) ∷ (Pointer Stack (pos 0)) ∷ []); cells = (replicate 512 (Empty)); outbox = ([]); entries = []; steps = 6 })
unfolding labels step onwards
jump_never_taken = refl

-- own_send; the verifier: accepted
own_send : after (i.Arithmetic W64 op.Move 1 (Immediate (pos 1)) ∷ i.Arithmetic W64 op.Move 2 (Immediate (pos 0)) ∷ i.LoadImmediate 3 21474836487 ∷ i.Call (pos 6) ∷ i.Arithmetic W64 op.Move 6 (Register 0) ∷ i.Arithmetic W64 op.Move 1 (Immediate (pos 1)) ∷ i.Arithmetic W64 op.Move 2 (Immediate (pos 3)) ∷ i.Arithmetic W64 op.Move 3 (Immediate (pos 8)) ∷ i.Call (pos 6) ∷ i.Arithmetic W64 op.ShiftLeft 0 (Immediate (pos 1)) ∷ i.Arithmetic W64 op.Or 0 (Register 6) ∷ i.Exit ∷ []) ((5 ∷ 0 ∷ 0 ∷ 0 ∷ 2 ∷ 0 ∷ 0 ∷ 0 ∷ 1 ∷ 0 ∷ 0 ∷ 0 ∷ 2 ∷ 0 ∷ 0 ∷ 0 ∷ 3 ∷ 0 ∷ 0 ∷ 0 ∷ 3 ∷ 0 ∷ 0 ∷ 0 ∷ 2 ∷ 0 ∷ 0 ∷ 0 ∷ 0 ∷ 0 ∷ 0 ∷ 0 ∷ 4 ∷ 0 ∷ 0 ∷ 0 ∷ 5 ∷ 0 ∷ 0 ∷ 0 ∷ 6 ∷ []) ++ replicate 4055 0) (oral (record { generals = 5; commander = 2; general = 1; round = 3 })) ([]) 12 ≡ Exited 2 (record { unit = 12; registers = ((Number 2) ∷ (Unset) ∷ (Unset) ∷ (Unset) ∷ (Unset) ∷ (Unset) ∷ (Number 0) ∷ (Unset) ∷ (Unset) ∷ (Unset) ∷ (Pointer Stack (pos 0)) ∷ []); cells = (replicate 512 (Empty)); outbox = ((None ∷ None ∷ []) ∷ (Some 7 ∷ None ∷ []) ∷ (None ∷ None ∷ []) ∷ []); entries = []; steps = 12 })
unfolding labels step onwards
own_send = refl

-- own_send_row; the verifier: accepted
own_send_row : after (i.Store size.Half 10 (negsuc 11) (Immediate (pos 9)) ∷ i.Store size.Half 10 (negsuc 9) (Immediate (pos 1)) ∷ i.Store size.Word 10 (negsuc 7) (Immediate (negsuc 0)) ∷ i.Store size.Word 10 (negsuc 3) (Immediate (pos 5)) ∷ i.Arithmetic W64 op.Move 1 (Immediate (pos 2)) ∷ i.Arithmetic W64 op.Move 2 (Register 10) ∷ i.Arithmetic W64 op.Add 2 (Immediate (negsuc 11)) ∷ i.Arithmetic W64 op.Move 3 (Immediate (pos 3)) ∷ i.Call (pos 7) ∷ i.Exit ∷ []) ((5 ∷ 0 ∷ 0 ∷ 0 ∷ 2 ∷ 0 ∷ 0 ∷ 0 ∷ 1 ∷ 0 ∷ 0 ∷ 0 ∷ 2 ∷ 0 ∷ 0 ∷ 0 ∷ 3 ∷ 0 ∷ 0 ∷ 0 ∷ 3 ∷ 0 ∷ 0 ∷ 0 ∷ 2 ∷ 0 ∷ 0 ∷ 0 ∷ 0 ∷ 0 ∷ 0 ∷ 0 ∷ 4 ∷ 0 ∷ 0 ∷ 0 ∷ 5 ∷ 0 ∷ 0 ∷ 0 ∷ 6 ∷ []) ++ replicate 4055 0) (oral (record { generals = 5; commander = 2; general = 1; round = 3 })) ([]) 10 ≡ Exited 2 (record { unit = 9; registers = ((Number 2) ∷ (Unset) ∷ (Unset) ∷ (Unset) ∷ (Unset) ∷ (Unset) ∷ (Unset) ∷ (Unset) ∷ (Unset) ∷ (Unset) ∷ (Pointer Stack (pos 0)) ∷ []); cells = (replicate 500 (Empty) ++ replicate 1 (Byte 9) ++ replicate 1 (Byte 0) ++ replicate 1 (Byte 1) ++ replicate 1 (Byte 0) ++ replicate 4 (Byte 255) ++ replicate 1 (Byte 5) ++ replicate 3 (Byte 0)); outbox = ((None ∷ None ∷ []) ∷ (None ∷ None ∷ []) ∷ (Some 65545 ∷ Some 4294967295 ∷ []) ∷ []); entries = []; steps = 10 })
unfolding labels step onwards
own_send_row = refl

-- own_send_row_short; the verifier: accepted
own_send_row_short : after (i.Arithmetic W64 op.Move 2 (Register 1) ∷ i.Arithmetic W64 op.Add 2 (Immediate (pos 32)) ∷ i.Arithmetic W64 op.Move 1 (Immediate (pos 1)) ∷ i.Arithmetic W64 op.Move 3 (Immediate (pos 1)) ∷ i.Call (pos 7) ∷ i.Exit ∷ []) ((5 ∷ 0 ∷ 0 ∷ 0 ∷ 2 ∷ 0 ∷ 0 ∷ 0 ∷ 1 ∷ 0 ∷ 0 ∷ 0 ∷ 2 ∷ 0 ∷ 0 ∷ 0 ∷ 3 ∷ 0 ∷ 0 ∷ 0 ∷ 3 ∷ 0 ∷ 0 ∷ 0 ∷ 2 ∷ 0 ∷ 0 ∷ 0 ∷ 0 ∷ 0 ∷ 0 ∷ 0 ∷ 4 ∷ 0 ∷ 0 ∷ 0 ∷ 5 ∷ 0 ∷ 0 ∷ 0 ∷ 6 ∷ []) ++ replicate 4055 0) (oral (record { generals = 5; commander = 2; general = 1; round = 3 })) ([]) 6 ≡ Exited 1 (record { unit = 5; registers = ((Number 1) ∷ (Unset) ∷ (Unset) ∷ (Unset) ∷ (Unset) ∷ (Unset) ∷ (Unset) ∷ (Unset) ∷ (Unset) ∷ (Unset) ∷ (Pointer Stack (pos 0)) ∷ []); cells = (replicate 512 (Empty)); outbox = ((None ∷ None ∷ []) ∷ (Some 4 ∷ None ∷ []) ∷ (None ∷ None ∷ []) ∷ []); entries = []; steps = 6 })
unfolding labels step onwards
own_send_row_short = refl

-- own_send_row_none; the verifier: accepted
own_send_row_none : after (i.Arithmetic W64 op.Move 2 (Register 1) ∷ i.Arithmetic W64 op.Add 2 (Immediate (pos 32)) ∷ i.Arithmetic W64 op.Move 1 (Immediate (pos 3)) ∷ i.Arithmetic W64 op.Move 3 (Immediate (pos 13)) ∷ i.Call (pos 7) ∷ i.Exit ∷ []) ((5 ∷ 0 ∷ 0 ∷ 0 ∷ 2 ∷ 0 ∷ 0 ∷ 0 ∷ 1 ∷ 0 ∷ 0 ∷ 0 ∷ 2 ∷ 0 ∷ 0 ∷ 0 ∷ 3 ∷ 0 ∷ 0 ∷ 0 ∷ 3 ∷ 0 ∷ 0 ∷ 0 ∷ 2 ∷ 0 ∷ 0 ∷ 0 ∷ 0 ∷ 0 ∷ 0 ∷ 0 ∷ 4 ∷ 0 ∷ 0 ∷ 0 ∷ 5 ∷ 0 ∷ 0 ∷ 0 ∷ 6 ∷ []) ++ replicate 4055 0) (oral (record { generals = 5; commander = 2; general = 1; round = 3 })) ([]) 6 ≡ Exited 0 (record { unit = 5; registers = ((Number 0) ∷ (Unset) ∷ (Unset) ∷ (Unset) ∷ (Unset) ∷ (Unset) ∷ (Unset) ∷ (Unset) ∷ (Unset) ∷ (Unset) ∷ (Pointer Stack (pos 0)) ∷ []); cells = (replicate 512 (Empty)); outbox = ((None ∷ None ∷ []) ∷ (None ∷ None ∷ []) ∷ (None ∷ None ∷ []) ∷ []); entries = []; steps = 6 })
unfolding labels step onwards
own_send_row_none = refl

-- own_send_row_unset; the verifier: refused V9 unit 4
own_send_row_unset : after (i.Arithmetic W64 op.Move 1 (Immediate (pos 3)) ∷ i.Arithmetic W64 op.Move 2 (Register 10) ∷ i.Arithmetic W64 op.Add 2 (Immediate (negsuc 3)) ∷ i.Arithmetic W64 op.Move 3 (Immediate (pos 1)) ∷ i.Call (pos 7) ∷ i.Exit ∷ []) ((5 ∷ 0 ∷ 0 ∷ 0 ∷ 2 ∷ 0 ∷ 0 ∷ 0 ∷ 1 ∷ 0 ∷ 0 ∷ 0 ∷ 2 ∷ 0 ∷ 0 ∷ 0 ∷ 3 ∷ 0 ∷ 0 ∷ 0 ∷ 3 ∷ 0 ∷ 0 ∷ 0 ∷ 2 ∷ 0 ∷ 0 ∷ 0 ∷ 0 ∷ 0 ∷ 0 ∷ 0 ∷ 4 ∷ 0 ∷ 0 ∷ 0 ∷ 5 ∷ 0 ∷ 0 ∷ 0 ∷ 6 ∷ []) ++ replicate 4055 0) (oral (record { generals = 5; commander = 2; general = 1; round = 3 })) ([]) 6 ≡ Trapped NoBytes
unfolding labels step onwards
own_send_row_unset = refl

-- own_send_row_empty_far; the verifier: refused V8 unit 4
own_send_row_empty_far : after (i.Arithmetic W64 op.Move 1 (Immediate (pos 3)) ∷ i.Arithmetic W64 op.Move 2 (Register 10) ∷ i.Arithmetic W64 op.Add 2 (Immediate (pos 4)) ∷ i.Arithmetic W64 op.Move 3 (Immediate (pos 0)) ∷ i.Call (pos 7) ∷ i.Exit ∷ []) ((5 ∷ 0 ∷ 0 ∷ 0 ∷ 2 ∷ 0 ∷ 0 ∷ 0 ∷ 1 ∷ 0 ∷ 0 ∷ 0 ∷ 2 ∷ 0 ∷ 0 ∷ 0 ∷ 3 ∷ 0 ∷ 0 ∷ 0 ∷ 3 ∷ 0 ∷ 0 ∷ 0 ∷ 2 ∷ 0 ∷ 0 ∷ 0 ∷ 0 ∷ 0 ∷ 0 ∷ 0 ∷ 4 ∷ 0 ∷ 0 ∷ 0 ∷ 5 ∷ 0 ∷ 0 ∷ 0 ∷ 6 ∷ []) ++ replicate 4055 0) (oral (record { generals = 5; commander = 2; general = 1; round = 3 })) ([]) 6 ≡ Trapped OutOfBounds
unfolding labels step onwards
own_send_row_empty_far = refl

-- own_honest; the verifier: accepted
own_honest : after (i.Arithmetic W64 op.Move 1 (Immediate (pos 0)) ∷ i.Call (pos 9) ∷ i.Arithmetic W64 op.Move 6 (Register 0) ∷ i.Arithmetic W64 op.Move 1 (Immediate (pos 4)) ∷ i.Arithmetic W64 op.Move 2 (Immediate (pos 3)) ∷ i.Call (pos 8) ∷ i.Arithmetic W64 op.ShiftLeft 0 (Immediate (pos 4)) ∷ i.Arithmetic W64 op.Or 0 (Register 6) ∷ i.Arithmetic W64 op.Move 7 (Register 0) ∷ i.Arithmetic W64 op.Move 1 (Immediate (pos 0)) ∷ i.Arithmetic W64 op.Move 2 (Immediate (pos 0)) ∷ i.Arithmetic W64 op.Move 3 (Immediate (pos 1)) ∷ i.Call (pos 6) ∷ i.Arithmetic W64 op.Move 0 (Register 7) ∷ i.Exit ∷ []) ((5 ∷ 0 ∷ 0 ∷ 0 ∷ 2 ∷ 0 ∷ 0 ∷ 0 ∷ 1 ∷ 0 ∷ 0 ∷ 0 ∷ 2 ∷ 0 ∷ 0 ∷ 0 ∷ 3 ∷ 0 ∷ 0 ∷ 0 ∷ 3 ∷ 0 ∷ 0 ∷ 0 ∷ 2 ∷ 0 ∷ 0 ∷ 0 ∷ 0 ∷ 0 ∷ 0 ∷ 0 ∷ 4 ∷ 0 ∷ 0 ∷ 0 ∷ 255 ∷ 255 ∷ 255 ∷ 255 ∷ 6 ∷ []) ++ replicate 4055 0) (oral (record { generals = 5; commander = 2; general = 1; round = 3 })) ([]) 15 ≡ Exited 34 (record { unit = 14; registers = ((Number 34) ∷ (Unset) ∷ (Unset) ∷ (Unset) ∷ (Unset) ∷ (Unset) ∷ (Number 2) ∷ (Number 34) ∷ (Unset) ∷ (Unset) ∷ (Pointer Stack (pos 0)) ∷ []); cells = (replicate 512 (Empty)); outbox = ((None ∷ Some 3 ∷ []) ∷ (Some 4294967295 ∷ Some 3 ∷ []) ∷ (Some 6 ∷ None ∷ []) ∷ []); entries = []; steps = 15 })
unfolding labels step onwards
own_honest = refl

-- own_honest_self; the verifier: accepted
own_honest_self : after (i.Arithmetic W64 op.Move 1 (Immediate (pos 1)) ∷ i.Call (pos 9) ∷ i.Exit ∷ []) ((5 ∷ 0 ∷ 0 ∷ 0 ∷ 2 ∷ 0 ∷ 0 ∷ 0 ∷ 1 ∷ 0 ∷ 0 ∷ 0 ∷ 2 ∷ 0 ∷ 0 ∷ 0 ∷ 3 ∷ 0 ∷ 0 ∷ 0 ∷ 3 ∷ 0 ∷ 0 ∷ 0 ∷ 2 ∷ 0 ∷ 0 ∷ 0 ∷ 0 ∷ 0 ∷ 0 ∷ 0 ∷ 4 ∷ 0 ∷ 0 ∷ 0 ∷ 5 ∷ 0 ∷ 0 ∷ 0 ∷ 6 ∷ []) ++ replicate 4055 0) (oral (record { generals = 5; commander = 2; general = 1; round = 3 })) ([]) 3 ≡ Exited 0 (record { unit = 2; registers = ((Number 0) ∷ (Unset) ∷ (Unset) ∷ (Unset) ∷ (Unset) ∷ (Unset) ∷ (Unset) ∷ (Unset) ∷ (Unset) ∷ (Unset) ∷ (Pointer Stack (pos 0)) ∷ []); cells = (replicate 512 (Empty)); outbox = ((None ∷ None ∷ []) ∷ (None ∷ None ∷ []) ∷ (None ∷ None ∷ []) ∷ []); entries = []; steps = 3 })
unfolding labels step onwards
own_honest_self = refl

-- own_copy_empty_far; the verifier: refused V12 unit 3
own_copy_empty_far : after (i.Arithmetic W64 op.Move 1 (Immediate (pos 64)) ∷ i.Arithmetic W64 op.Move 2 (Register 10) ∷ i.Arithmetic W64 op.Move 3 (Immediate (pos 0)) ∷ i.Call (pos 5) ∷ i.Exit ∷ []) ((4 ∷ 0 ∷ 0 ∷ 0 ∷ 1 ∷ 0 ∷ 0 ∷ 0 ∷ 3 ∷ 0 ∷ 0 ∷ 0 ∷ 0 ∷ 0 ∷ 0 ∷ 0 ∷ 1 ∷ 0 ∷ 0 ∷ 0 ∷ 0 ∷ 0 ∷ 0 ∷ 0 ∷ 3 ∷ []) ++ replicate 4071 0) (oral (record { generals = 4; commander = 0; general = 3; round = 1 })) ([]) 5 ≡ Trapped Argument
unfolding labels step onwards
own_copy_empty_far = refl

-- own_copy_context; the verifier: refused V10 unit 3
own_copy_context : after (i.Arithmetic W64 op.Move 2 (Register 1) ∷ i.Arithmetic W64 op.Move 1 (Immediate (pos 0)) ∷ i.Arithmetic W64 op.Move 3 (Immediate (pos 0)) ∷ i.Call (pos 5) ∷ i.Exit ∷ []) ((4 ∷ 0 ∷ 0 ∷ 0 ∷ 1 ∷ 0 ∷ 0 ∷ 0 ∷ 3 ∷ 0 ∷ 0 ∷ 0 ∷ 0 ∷ 0 ∷ 0 ∷ 0 ∷ 1 ∷ 0 ∷ 0 ∷ 0 ∷ 0 ∷ 0 ∷ 0 ∷ 0 ∷ 3 ∷ []) ++ replicate 4071 0) (oral (record { generals = 4; commander = 0; general = 3; round = 1 })) ([]) 5 ≡ Trapped ContextWrite
unfolding labels step onwards
own_copy_context = refl

-- own_copy_over_pieces; the verifier: accepted
own_copy_over_pieces : after (i.Store size.Double 10 (negsuc 15) (Register 1) ∷ i.Store size.Double 10 (negsuc 7) (Register 10) ∷ i.Arithmetic W64 op.Move 1 (Immediate (pos 3)) ∷ i.Arithmetic W64 op.Move 2 (Register 10) ∷ i.Arithmetic W64 op.Add 2 (Immediate (negsuc 11)) ∷ i.Arithmetic W64 op.Move 3 (Immediate (pos 1)) ∷ i.Call (pos 5) ∷ i.Load size.Double 0 10 (negsuc 11) ∷ i.Exit ∷ []) ((4 ∷ 0 ∷ 0 ∷ 0 ∷ 1 ∷ 0 ∷ 0 ∷ 0 ∷ 3 ∷ 0 ∷ 0 ∷ 0 ∷ 0 ∷ 0 ∷ 0 ∷ 0 ∷ 1 ∷ 0 ∷ 0 ∷ 0 ∷ 0 ∷ 0 ∷ 0 ∷ 0 ∷ 3 ∷ []) ++ replicate 4071 0) (oral (record { generals = 4; commander = 0; general = 3; round = 1 })) ((1234605616436508552 ∷ []) ∷ []) 9 ≡ Exited 1234605616436508552 (record { unit = 8; registers = ((Number 1234605616436508552) ∷ (Unset) ∷ (Unset) ∷ (Unset) ∷ (Unset) ∷ (Unset) ∷ (Unset) ∷ (Unset) ∷ (Unset) ∷ (Unset) ∷ (Pointer Stack (pos 0)) ∷ []); cells = (replicate 496 (Empty) ++ replicate 1 (Piece 0 Context (pos 0)) ++ replicate 1 (Piece 1 Context (pos 0)) ++ replicate 1 (Piece 2 Context (pos 0)) ++ replicate 1 (Piece 3 Context (pos 0)) ++ replicate 1 (Byte 136) ++ replicate 1 (Byte 119) ++ replicate 1 (Byte 102) ++ replicate 1 (Byte 85) ++ replicate 1 (Byte 68) ++ replicate 1 (Byte 51) ++ replicate 1 (Byte 34) ++ replicate 1 (Byte 17) ++ replicate 1 (Piece 4 Stack (pos 0)) ++ replicate 1 (Piece 5 Stack (pos 0)) ++ replicate 1 (Piece 6 Stack (pos 0)) ++ replicate 1 (Piece 7 Stack (pos 0))); outbox = ([]); entries = []; steps = 9 })
unfolding labels step onwards
own_copy_over_pieces = refl

-- own_store_over_piece; the verifier: refused V9 unit 2
own_store_over_piece : after (i.Store size.Double 10 (negsuc 7) (Register 10) ∷ i.Store size.Byte 10 (negsuc 0) (Immediate (pos 0)) ∷ i.Load size.Double 0 10 (negsuc 7) ∷ i.Exit ∷ []) ((4 ∷ 0 ∷ 0 ∷ 0 ∷ 1 ∷ 0 ∷ 0 ∷ 0 ∷ 3 ∷ 0 ∷ 0 ∷ 0 ∷ 0 ∷ 0 ∷ 0 ∷ 0 ∷ 1 ∷ 0 ∷ 0 ∷ 0 ∷ 0 ∷ 0 ∷ 0 ∷ 0 ∷ 3 ∷ []) ++ replicate 4071 0) (oral (record { generals = 4; commander = 0; general = 3; round = 1 })) ([]) 4 ≡ Trapped NoBytes
unfolding labels step onwards
own_store_over_piece = refl

-- own_two_pointers; the verifier: refused V9 unit 4
own_two_pointers : after (i.Store size.Double 10 (negsuc 7) (Register 10) ∷ i.Store size.Double 10 (negsuc 15) (Register 1) ∷ i.Load size.Double 3 10 (negsuc 7) ∷ i.Load size.Double 4 10 (negsuc 15) ∷ i.Load size.Double 5 10 (negsuc 11) ∷ i.Exit ∷ []) ((4 ∷ 0 ∷ 0 ∷ 0 ∷ 1 ∷ 0 ∷ 0 ∷ 0 ∷ 3 ∷ 0 ∷ 0 ∷ 0 ∷ 0 ∷ 0 ∷ 0 ∷ 0 ∷ 1 ∷ 0 ∷ 0 ∷ 0 ∷ 0 ∷ 0 ∷ 0 ∷ 0 ∷ 3 ∷ []) ++ replicate 4071 0) (oral (record { generals = 4; commander = 0; general = 3; round = 1 })) ([]) 6 ≡ Trapped NoBytes
unfolding labels step onwards
own_two_pointers = refl

-- own_word_pointer; the verifier: refused V7 unit 0
own_word_pointer : after (i.Store size.Word 10 (negsuc 3) (Register 10) ∷ i.Arithmetic W64 op.Move 0 (Immediate (pos 0)) ∷ i.Exit ∷ []) ((4 ∷ 0 ∷ 0 ∷ 0 ∷ 1 ∷ 0 ∷ 0 ∷ 0 ∷ 3 ∷ 0 ∷ 0 ∷ 0 ∷ 0 ∷ 0 ∷ 0 ∷ 0 ∷ 1 ∷ 0 ∷ 0 ∷ 0 ∷ 0 ∷ 0 ∷ 0 ∷ 0 ∷ 3 ∷ []) ++ replicate 4071 0) (oral (record { generals = 4; commander = 0; general = 3; round = 1 })) ([]) 2 ≡ Trapped PointerUse
unfolding labels step onwards
own_word_pointer = refl

-- own_call_unsets_r5; the verifier: refused V5 unit 3
own_call_unsets_r5 : after (i.Arithmetic W64 op.Move 5 (Immediate (pos 1)) ∷ i.Arithmetic W64 op.Move 1 (Immediate (pos 0)) ∷ i.Call (pos 1) ∷ i.Arithmetic W64 op.Move 0 (Register 5) ∷ i.Exit ∷ []) ((4 ∷ 0 ∷ 0 ∷ 0 ∷ 1 ∷ 0 ∷ 0 ∷ 0 ∷ 3 ∷ 0 ∷ 0 ∷ 0 ∷ 0 ∷ 0 ∷ 0 ∷ 0 ∷ 1 ∷ 0 ∷ 0 ∷ 0 ∷ 0 ∷ 0 ∷ 0 ∷ 0 ∷ 3 ∷ []) ++ replicate 4071 0) (oral (record { generals = 4; commander = 0; general = 3; round = 1 })) ((0 ∷ []) ∷ []) 5 ≡ Trapped UnsetRegister
unfolding labels step onwards
own_call_unsets_r5 = refl

-- own_pieces_shifted; the verifier: refused V9 unit 2
own_pieces_shifted : after (i.Store size.Double 10 (negsuc 15) (Register 1) ∷ i.Store size.Double 10 (negsuc 7) (Register 1) ∷ i.Load size.Double 0 10 (negsuc 11) ∷ i.Exit ∷ []) ((4 ∷ 0 ∷ 0 ∷ 0 ∷ 1 ∷ 0 ∷ 0 ∷ 0 ∷ 3 ∷ 0 ∷ 0 ∷ 0 ∷ 0 ∷ 0 ∷ 0 ∷ 0 ∷ 1 ∷ 0 ∷ 0 ∷ 0 ∷ 0 ∷ 0 ∷ 0 ∷ 0 ∷ 3 ∷ []) ++ replicate 4071 0) (oral (record { generals = 4; commander = 0; general = 3; round = 1 })) ([]) 4 ≡ Trapped NoBytes
unfolding labels step onwards
own_pieces_shifted = refl

-- own_send_twice; the verifier: accepted
own_send_twice : after (i.Arithmetic W64 op.Move 1 (Immediate (pos 0)) ∷ i.Arithmetic W64 op.Move 2 (Immediate (pos 0)) ∷ i.Arithmetic W64 op.Move 3 (Immediate (pos 5)) ∷ i.Call (pos 6) ∷ i.Arithmetic W64 op.Move 1 (Immediate (pos 0)) ∷ i.Arithmetic W64 op.Move 2 (Immediate (pos 0)) ∷ i.Arithmetic W64 op.Move 3 (Immediate (pos 6)) ∷ i.Call (pos 6) ∷ i.Exit ∷ []) ((5 ∷ 0 ∷ 0 ∷ 0 ∷ 2 ∷ 0 ∷ 0 ∷ 0 ∷ 1 ∷ 0 ∷ 0 ∷ 0 ∷ 2 ∷ 0 ∷ 0 ∷ 0 ∷ 3 ∷ 0 ∷ 0 ∷ 0 ∷ 3 ∷ 0 ∷ 0 ∷ 0 ∷ 2 ∷ 0 ∷ 0 ∷ 0 ∷ 0 ∷ 0 ∷ 0 ∷ 0 ∷ 4 ∷ 0 ∷ 0 ∷ 0 ∷ 5 ∷ 0 ∷ 0 ∷ 0 ∷ 6 ∷ []) ++ replicate 4055 0) (oral (record { generals = 5; commander = 2; general = 1; round = 3 })) ([]) 9 ≡ Exited 1 (record { unit = 8; registers = ((Number 1) ∷ (Unset) ∷ (Unset) ∷ (Unset) ∷ (Unset) ∷ (Unset) ∷ (Unset) ∷ (Unset) ∷ (Unset) ∷ (Unset) ∷ (Pointer Stack (pos 0)) ∷ []); cells = (replicate 512 (Empty)); outbox = ((None ∷ None ∷ []) ∷ (None ∷ None ∷ []) ∷ (None ∷ None ∷ []) ∷ []); entries = []; steps = 9 })
unfolding labels step onwards
own_send_twice = refl

-- own_pointer_least; the verifier: accepted
own_pointer_least : after (i.Arithmetic W64 op.Move 2 (Register 1) ∷ i.Arithmetic W64 op.Sub 2 (Immediate (pos 65536)) ∷ i.Arithmetic W64 op.Move 0 (Immediate (pos 0)) ∷ i.Exit ∷ []) ((4 ∷ 0 ∷ 0 ∷ 0 ∷ 1 ∷ 0 ∷ 0 ∷ 0 ∷ 3 ∷ 0 ∷ 0 ∷ 0 ∷ 0 ∷ 0 ∷ 0 ∷ 0 ∷ 1 ∷ 0 ∷ 0 ∷ 0 ∷ 0 ∷ 0 ∷ 0 ∷ 0 ∷ 3 ∷ []) ++ replicate 4071 0) (oral (record { generals = 4; commander = 0; general = 3; round = 1 })) ([]) 4 ≡ Exited 0 (record { unit = 3; registers = ((Number 0) ∷ (Pointer Context (pos 0)) ∷ (Pointer Context (negsuc 65535)) ∷ (Unset) ∷ (Unset) ∷ (Unset) ∷ (Unset) ∷ (Unset) ∷ (Unset) ∷ (Unset) ∷ (Pointer Stack (pos 0)) ∷ []); cells = (replicate 512 (Empty)); outbox = ([]); entries = []; steps = 4 })
unfolding labels step onwards
own_pointer_least = refl

-- own_unset_source; the verifier: refused V5 unit 0
own_unset_source : after (i.SignExtend W64 narrow.Word 0 3 ∷ i.Exit ∷ []) ((4 ∷ 0 ∷ 0 ∷ 0 ∷ 1 ∷ 0 ∷ 0 ∷ 0 ∷ 3 ∷ 0 ∷ 0 ∷ 0 ∷ 0 ∷ 0 ∷ 0 ∷ 0 ∷ 1 ∷ 0 ∷ 0 ∷ 0 ∷ 0 ∷ 0 ∷ 0 ∷ 0 ∷ 3 ∷ []) ++ replicate 4071 0) (oral (record { generals = 4; commander = 0; general = 3; round = 1 })) ([]) 2 ≡ Trapped UnsetRegister
unfolding labels step onwards
own_unset_source = refl

-- own_sub_pointer; the verifier: refused V7 unit 5
own_sub_pointer : after (i.Arithmetic W64 op.Move 2 (Register 10) ∷ i.Arithmetic W64 op.Sub 2 (Immediate (pos 65536)) ∷ i.Arithmetic W64 op.Sub 2 (Immediate (negsuc 131071)) ∷ i.Arithmetic W64 op.Sub 2 (Immediate (pos 1)) ∷ i.Arithmetic W64 op.Add 2 (Immediate (pos 1)) ∷ i.Arithmetic W64 op.Add 2 (Immediate (pos 1)) ∷ i.Exit ∷ []) ((4 ∷ 0 ∷ 0 ∷ 0 ∷ 1 ∷ 0 ∷ 0 ∷ 0 ∷ 3 ∷ 0 ∷ 0 ∷ 0 ∷ 0 ∷ 0 ∷ 0 ∷ 0 ∷ 1 ∷ 0 ∷ 0 ∷ 0 ∷ 0 ∷ 0 ∷ 0 ∷ 0 ∷ 3 ∷ []) ++ replicate 4071 0) (oral (record { generals = 4; commander = 0; general = 3; round = 1 })) ([]) 7 ≡ Trapped PointerUse
unfolding labels step onwards
own_sub_pointer = refl

-- own_memsx; the verifier: accepted
own_memsx : after (i.Store size.Word 10 (negsuc 3) (Immediate (negsuc 1)) ∷ i.LoadSigned narrow.Byte 1 10 (negsuc 3) ∷ i.LoadSigned narrow.Half 2 10 (negsuc 3) ∷ i.LoadSigned narrow.Word 3 10 (negsuc 3) ∷ i.Load size.Byte 4 10 (negsuc 3) ∷ i.Load size.Half 5 10 (negsuc 3) ∷ i.Load size.Word 0 10 (negsuc 3) ∷ i.Exit ∷ []) ((4 ∷ 0 ∷ 0 ∷ 0 ∷ 1 ∷ 0 ∷ 0 ∷ 0 ∷ 3 ∷ 0 ∷ 0 ∷ 0 ∷ 0 ∷ 0 ∷ 0 ∷ 0 ∷ 1 ∷ 0 ∷ 0 ∷ 0 ∷ 0 ∷ 0 ∷ 0 ∷ 0 ∷ 3 ∷ []) ++ replicate 4071 0) (oral (record { generals = 4; commander = 0; general = 3; round = 1 })) ([]) 8 ≡ Exited 4294967294 (record { unit = 7; registers = ((Number 4294967294) ∷ (Number 18446744073709551614) ∷ (Number 18446744073709551614) ∷ (Number 18446744073709551614) ∷ (Number 254) ∷ (Number 65534) ∷ (Unset) ∷ (Unset) ∷ (Unset) ∷ (Unset) ∷ (Pointer Stack (pos 0)) ∷ []); cells = (replicate 508 (Empty) ++ replicate 1 (Byte 254) ++ replicate 3 (Byte 255)); outbox = ([]); entries = []; steps = 8 })
unfolding labels step onwards
own_memsx = refl

-- own_std; the verifier: accepted
own_std : after (i.Store size.Double 10 (negsuc 7) (Immediate (negsuc 1)) ∷ i.Load size.Double 0 10 (negsuc 7) ∷ i.Exit ∷ []) ((4 ∷ 0 ∷ 0 ∷ 0 ∷ 1 ∷ 0 ∷ 0 ∷ 0 ∷ 3 ∷ 0 ∷ 0 ∷ 0 ∷ 0 ∷ 0 ∷ 0 ∷ 0 ∷ 1 ∷ 0 ∷ 0 ∷ 0 ∷ 0 ∷ 0 ∷ 0 ∷ 0 ∷ 3 ∷ []) ++ replicate 4071 0) (oral (record { generals = 4; commander = 0; general = 3; round = 1 })) ([]) 3 ≡ Exited 18446744073709551614 (record { unit = 2; registers = ((Number 18446744073709551614) ∷ (Pointer Context (pos 0)) ∷ (Unset) ∷ (Unset) ∷ (Unset) ∷ (Unset) ∷ (Unset) ∷ (Unset) ∷ (Unset) ∷ (Unset) ∷ (Pointer Stack (pos 0)) ∷ []); cells = (replicate 504 (Empty) ++ replicate 1 (Byte 254) ++ replicate 7 (Byte 255)); outbox = ([]); entries = []; steps = 3 })
unfolding labels step onwards
own_std = refl

-- own_long_jump; the verifier: accepted
own_long_jump : after (i.Arithmetic W64 op.Move 0 (Immediate (pos 3)) ∷ i.LongJump (pos 1) ∷ i.Arithmetic W64 op.Move 0 (Immediate (pos 4)) ∷ i.Exit ∷ []) ((4 ∷ 0 ∷ 0 ∷ 0 ∷ 1 ∷ 0 ∷ 0 ∷ 0 ∷ 3 ∷ 0 ∷ 0 ∷ 0 ∷ 0 ∷ 0 ∷ 0 ∷ 0 ∷ 1 ∷ 0 ∷ 0 ∷ 0 ∷ 0 ∷ 0 ∷ 0 ∷ 0 ∷ 3 ∷ []) ++ replicate 4071 0) (oral (record { generals = 4; commander = 0; general = 3; round = 1 })) ([]) 4 ≡ Exited 3 (record { unit = 3; registers = ((Number 3) ∷ (Pointer Context (pos 0)) ∷ (Unset) ∷ (Unset) ∷ (Unset) ∷ (Unset) ∷ (Unset) ∷ (Unset) ∷ (Unset) ∷ (Unset) ∷ (Pointer Stack (pos 0)) ∷ []); cells = (replicate 512 (Empty)); outbox = ([]); entries = []; steps = 3 })
unfolding labels step onwards
own_long_jump = refl

-- sign_order where orders are oral: nothing is entered; the verifier: accepted
signed_orally : after (i.Arithmetic W64 op.Move 1 (Immediate (pos 1)) ∷ i.Arithmetic W64 op.Move 2 (Immediate (pos 2)) ∷ i.Call (pos 10) ∷ i.Exit ∷ []) ((4 ∷ 0 ∷ 0 ∷ 0 ∷ 1 ∷ 0 ∷ 0 ∷ 0 ∷ 3 ∷ 0 ∷ 0 ∷ 0 ∷ 0 ∷ 0 ∷ 0 ∷ 0 ∷ 1 ∷ 0 ∷ 0 ∷ 0 ∷ 0 ∷ 0 ∷ 0 ∷ 0 ∷ 3 ∷ []) ++ replicate 4071 0) (oral (record { generals = 4; commander = 0; general = 3; round = 1 })) ([]) 4 ≡ Exited 1 (record { unit = 3; registers = ((Number 1) ∷ (Unset) ∷ (Unset) ∷ (Unset) ∷ (Unset) ∷ (Unset) ∷ (Unset) ∷ (Unset) ∷ (Unset) ∷ (Unset) ∷ (Pointer Stack (pos 0)) ∷ []); cells = (replicate 512 (Empty)); outbox = ([]); entries = []; steps = 4 })
unfolding labels step onwards
signed_orally = refl

-- the commander signs an order, of a word its low 32 bits, and what he signs past 8 entries is not taken
signed_by_the_commander : after (i.LoadImmediate 1 4294967303 ∷ i.Arithmetic W64 op.Move 2 (Immediate (pos 2)) ∷ i.Call (pos 10) ∷ i.Exit ∷ []) (replicate 4096 0) (signed (record { generals = 3; commander = 0; general = 0; round = 1 }) []) ([]) 4 ≡ Exited 0 (record { unit = 4; registers = ((Number 0) ∷ (Unset) ∷ (Unset) ∷ (Unset) ∷ (Unset) ∷ (Unset) ∷ (Unset) ∷ (Unset) ∷ (Unset) ∷ (Unset) ∷ (Pointer Stack (pos 0)) ∷ []); cells = (replicate 512 (Empty)); outbox = ([]); entries = (Sign 7 2 ∷ []); steps = 4 })
unfolding labels step onwards
signed_by_the_commander = refl

ninth_not_taken : entered (signed (record { generals = 3; commander = 0; general = 0; round = 1 }) []) (replicate 8 (Sign 1 2)) (Sign 0 2) ≡ replicate 8 (Sign 1 2)
ninth_not_taken = refl

-- another general signs no order; he passes on a chain that he holds and has not signed
signed_by_another : is_sendable (signed (record { generals = 3; commander = 0; general = 2; round = 2 }) (1 ∷ 5 ∷ [])) (Sign 1 2) ≡ false
signed_by_another = refl

passed_on : is_sendable (signed (record { generals = 3; commander = 0; general = 2; round = 2 }) (1 ∷ 5 ∷ [])) (Pass 0 2) ≡ true
passed_on = refl

passed_on_twice : is_sendable (signed (record { generals = 3; commander = 0; general = 2; round = 2 }) (1 ∷ 5 ∷ [])) (Pass 1 2) ≡ false
passed_on_twice = refl

passed_on_unheld : is_sendable (signed (record { generals = 3; commander = 0; general = 2; round = 2 }) (1 ∷ 5 ∷ [])) (Pass 2 2) ≡ false
passed_on_unheld = refl

-- a place past the 384th is refused; the verifier: V12 unit 2
place_384 : after (i.Arithmetic W64 op.Move 1 (Immediate (pos 384)) ∷ i.Arithmetic W64 op.Move 2 (Immediate (pos 2)) ∷ i.Call (pos 11) ∷ i.Exit ∷ []) (replicate 4096 0) (oral (record { generals = 4; commander = 0; general = 3; round = 1 })) ([]) 4 ≡ Trapped Argument
unfolding labels step onwards
place_384 = refl

-- where orders are signed a helper finds no place
sent_where_signed : after (i.Arithmetic W64 op.Move 1 (Immediate (pos 0)) ∷ i.Arithmetic W64 op.Move 2 (Immediate (pos 1)) ∷ i.Arithmetic W64 op.Move 3 (Immediate (pos 1)) ∷ i.Call (pos 6) ∷ i.Exit ∷ []) (replicate 4096 0) (signed (record { generals = 4; commander = 0; general = 0; round = 1 }) []) ([]) 5 ≡ Exited 1 (record { unit = 4; registers = ((Number 1) ∷ (Unset) ∷ (Unset) ∷ (Unset) ∷ (Unset) ∷ (Unset) ∷ (Unset) ∷ (Unset) ∷ (Unset) ∷ (Unset) ∷ (Pointer Stack (pos 0)) ∷ []); cells = (replicate 512 (Empty)); outbox = ([]); entries = []; steps = 5 })
unfolding labels step onwards
sent_where_signed = refl
