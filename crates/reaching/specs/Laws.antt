-- States the law about what is known after an instruction.
use Rattle.std.specs.Prelude.{◌≡◌, None}
use Rattle.insn.specs.declared.insn.Insn.{Insn}
use Rattle.verify.specs.declared.state.AbsState.{AbsState}
use Rattle.verify.specs.Instructions.{reason_of}
use Rattle.verify.specs.Transfer.{transfer}
use Rattle.reaching.specs.Left.{left}

-- States that `left`, which explanations use, gives for every instruction that may run the same state as the verifier.
abbrev pub LeftIsTransfer : Type 0
LeftIsTransfer = (i : Insn) (a : AbsState) → reason_of i a ≡ None → left i a ≡ transfer i a
