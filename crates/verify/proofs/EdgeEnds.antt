-- The units to which instructions lead.
use Rattle.std.proofs.Common.{◌≡◌, ℕ, ◌+◌, ◌<◌, List, Some, length, inl, refl, arith}
use Rattle.std.specs.Prelude.{pos}
use Rattle.insn.specs.declared.insn.Insn.{Insn}
use Rattle.insn.specs.declared.insn.Insn.TheVariants.{Arithmetic, Negate, SignExtend, Swap, LoadImmediate, Jump, LongJump, Branch, Load, LoadSigned, Store, Call, Exit}
use Rattle.insn.specs.Insn.{units_of}
use Rattle.insn.specs.Program.{slots_of, instruction_at}
use Rattle.semantics.specs.Plain.{IsIn, leads_to}
use Rattle.verify.specs.Instructions.{IsStraight}
use Rattle.verify.specs.Forward.{IsForward}
use Rattle.verify.specs.Kept.{EdgesInside}
use Rattle.verify.proofs.Edges.{start_inside}

-- An instruction that continues with the next one has its edge there.
pub straight_edge : (i : Insn) (unit : ℕ) → IsStraight i → IsIn (pos (unit + units_of i)) (leads_to i unit)
straight_edge (Arithmetic width operation dst operand) unit h = inl refl
straight_edge (Negate width dst) unit h = inl refl
straight_edge (SignExtend width part dst src) unit h = inl refl
straight_edge (Swap order size dst) unit h = inl refl
straight_edge (LoadImmediate dst number) unit h = inl refl
straight_edge (Jump distance) unit h = absurd h
straight_edge (LongJump distance) unit h = absurd h
straight_edge (Branch width condition dst operand distance) unit h = absurd h
straight_edge (Load size dst base offset) unit h = inl refl
straight_edge (LoadSigned part dst base offset) unit h = inl refl
straight_edge (Store size base offset source) unit h = inl refl
straight_edge (Call helper) unit h = inl refl
straight_edge Exit unit h = absurd h

-- In a program whose edges lead forward, each edge ends inside the program.
pub inside_of_forward : (program : List Insn) (unit : ℕ) (i : Insn) (end : ℕ) → IsForward program → instruction_at program unit ≡ Some i → end ≡ length (slots_of program) → EdgesInside i unit end
inside_of_forward program unit i end forward at e v edge =
    let start = (forward.edges unit i at (pos v) edge).1 in
    let same : v ≡ start.0 = let h = start.1 in cc in
    let inside : start.0 < length (slots_of program) = start_inside program start.0 start.2 in
    omega arith
