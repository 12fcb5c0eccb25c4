-- An instruction that uses only numbers is accepted.
use Rattle.std.proofs.Common.{◌≡◌, inl, inr, ℕ, ◌+◌, ◌<◌, [], ◌∷◌, length, arith, refl, sym, true, false, Some, None}
use Rattle.std.specs.Prelude.{pos, ◌+ℤ◌}
use Rattle.insn.specs.declared.insn.Insn.{Insn}
use Rattle.insn.specs.declared.insn.Insn.TheVariants.{Arithmetic, Negate, SignExtend, Swap, LoadImmediate, Load, LoadSigned, Store, Call, Jump, LongJump, Branch, Exit}
use Rattle.insn.specs.Insn.{IsInsn}
use Rattle.semantics.specs.Plain.{IsIn, IsOfNumbers, operand_reads, first_reads, reads, writes}
use Rattle.absval.specs.NumberSets.{single, negations, extensions, swaps}
use Rattle.absval.specs.Table.{computed, negated_known, extended_known, swapped_known}
use Rattle.verify.specs.declared.comparison.Comparison.{Comparison}
use Rattle.verify.specs.declared.state.AbsState.{AbsState}
use Rattle.verify.specs.Registers.{known_at, operand_known, first_known, edge_known}
use Rattle.verify.specs.Instructions.{reason_of}
use Rattle.verify.specs.Transfer.{narrowed, edge_to, edges}
use Rattle.verify.proofs.KnownNumbers.{AllKnown, operand_numbers, first_numbers, left_in, right_in, made_none, arithmetic_none, write_none, compare_none, exit_none}
use Rattle.absval.proofs.NumberRows.{computed_numbers, mapped_numbers}
use Rattle.verify.proofs.PlainEdges.{EdgesFine, assigned_edge, same_edge, edge_narrows, branch_edge, both_edges}
use Rattle.absval.specs.declared.value.AbsVal.TheVariants.{Number}

abbrev pub Runs : Insn → ℕ → AbsState → Type 0
Runs i unit a = (reason_of i a ≡ None) × EdgesFine i unit a.registers (edges i unit a)

pub only_one : (r dst : ℕ) → IsIn r (dst ∷ []) → r ≡ dst
only_one r dst (inl e) = e
only_one r dst (inr h) = absurd h

-- An instruction that uses only numbers is accepted.
pub instruction_runs : (i : Insn) (unit : ℕ) (a : AbsState) → IsOfNumbers i → (IsIn 10 (writes i) → ⊥) → IsInsn i → AllKnown (reads i) a.registers → length a.registers ≡ 11 → Runs i unit a
instruction_runs (Arithmetic w operation dst operand) unit a plain frame well all size =
    let lt : dst < 11 = omega (arith, well.0) in
    let first = first_numbers a.registers operation dst lt (λ r low h. all r low (left_in (first_reads operation dst) (operand_reads operand) r h)) in
    let second = operand_numbers a.registers operand well.1 (λ r low h. all r low (right_in (first_reads operation dst) (operand_reads operand) r h)) in
    let made = computed_numbers w operation (first_known a.registers operation dst) (operand_known a.registers operand) first second in (
      arithmetic_none (first_known a.registers operation dst) dst (operand_known a.registers operand)
          (computed w operation (first_known a.registers operation dst) (operand_known a.registers operand)) first
          (made_none dst (operand_known a.registers operand) (computed w operation (first_known a.registers operation dst) (operand_known a.registers operand)) second (λ e. frame (inl (sym e))) made),
      (assigned_edge (Arithmetic w operation dst operand) unit (unit + 1) a dst (computed w operation (first_known a.registers operation dst) (operand_known a.registers operand)) size lt made (inl refl) (λ r h. only_one r dst h), tt),
    )
instruction_runs (Negate w dst) unit a plain frame well all size =
    let lt : dst < 11 = omega (arith, well) in
    let made = mapped_numbers (known_at a.registers dst) (all dst lt (inl refl)) in (
      made_none dst (known_at a.registers dst) (negated_known w (known_at a.registers dst)) (all dst lt (inl refl)) (λ e. frame (inl (sym e))) (made (negations w)),
      (assigned_edge (Negate w dst) unit (unit + 1) a dst (negated_known w (known_at a.registers dst)) size lt (made (negations w)) (inl refl) (λ r h. only_one r dst h), tt),
    )
instruction_runs (SignExtend w part dst src) unit a plain frame well all size =
    let lt : dst < 11 = omega (arith, well.1) in
    let low : src < 11 = omega (arith, well.2) in
    let made = mapped_numbers (known_at a.registers src) (all src low (inl refl)) in (
      made_none dst (known_at a.registers src) (extended_known w part (known_at a.registers src)) (all src low (inl refl)) (λ e. frame (inl (sym e))) (made (extensions w part)),
      (assigned_edge (SignExtend w part dst src) unit (unit + 1) a dst (extended_known w part (known_at a.registers src)) size lt (made (extensions w part)) (inl refl) (λ r h. only_one r dst h), tt),
    )
instruction_runs (Swap order width dst) unit a plain frame well all size =
    let lt : dst < 11 = omega (arith, well) in
    let made = mapped_numbers (known_at a.registers dst) (all dst lt (inl refl)) in (
      made_none dst (known_at a.registers dst) (swapped_known order width (known_at a.registers dst)) (all dst lt (inl refl)) (λ e. frame (inl (sym e))) (made (swaps order width)),
      (assigned_edge (Swap order width dst) unit (unit + 1) a dst (swapped_known order width (known_at a.registers dst)) size lt (made (swaps order width)) (inl refl) (λ r h. only_one r dst h), tt),
    )
instruction_runs (LoadImmediate dst number) unit a plain frame well all size =
    let lt : dst < 11 = omega (arith, well.0) in (
      write_none dst (λ e. frame (inl (sym e))),
      (assigned_edge (LoadImmediate dst number) unit (unit + 2) a dst (Some (Number (single number))) size lt refl (inl refl) (λ r h. only_one r dst h), tt),
    )
instruction_runs (Jump distance) unit a plain frame well all size =
    (refl, (same_edge (Jump distance) unit (pos (unit + 1) +ℤ distance) a size (inl refl) (λ r h. h), tt))
instruction_runs (LongJump distance) unit a plain frame well all size =
    (refl, (same_edge (LongJump distance) unit (pos (unit + 1) +ℤ distance) a size (inl refl) (λ r h. h), tt))
instruction_runs (Branch w condition dst operand distance) unit a plain frame well all size =
    let i = Branch w condition dst operand distance in
    let c : Comparison = record { width = w; condition = condition; dst = dst; operand = operand } in
    let lt : dst < 11 = omega (arith, well.0) in
    let first = all dst lt (inl refl) in
    let second = operand_numbers a.registers operand well.1 (λ r low h. all r low (inr h)) in (
      compare_none (known_at a.registers dst) (operand_known a.registers operand) first second,
      both_edges i unit a.registers (pos (unit + 1)) (narrowed c false a) (edge_to (pos (unit + 1) +ℤ distance) (narrowed c true a))
          (branch_edge i unit (pos (unit + 1)) a (edge_known c false a.registers)
          (edge_narrows w condition dst operand false a.registers size lt well.1 first second) (inl refl) (λ r h. h))
          (branch_edge i unit (pos (unit + 1) +ℤ distance) a (edge_known c true a.registers)
          (edge_narrows w condition dst operand true a.registers size lt well.1 first second) (inr (inl refl)) (λ r h. h)),
    )
instruction_runs (Load width dst base offset) unit a plain frame well all size = absurd plain
instruction_runs (LoadSigned part dst base offset) unit a plain frame well all size = absurd plain
instruction_runs (Store width base offset source) unit a plain frame well all size = absurd plain
instruction_runs (Call number) unit a plain frame well all size = absurd plain
instruction_runs Exit unit a plain frame well all size = (exit_none (known_at a.registers 0) (all 0 (omega arith) (inl refl)), tt)
