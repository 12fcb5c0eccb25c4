-- Each reason that the pass finds has a sentence, for each kind of instruction.
use Rattle.std.proofs.Common.{◌≡◌, ⊎_elim, ℕ, List, [], ◌∷◌, true, false, Option, Some, None, refl}
use Rattle.std.specs.Prelude.{is_none, IsSome}
use Rattle.word.specs.declared.Width.{Width}
use Rattle.word.specs.declared.Operation.{Operation}
use Rattle.insn.specs.declared.insn.Insn.{Insn}
use Rattle.insn.specs.declared.insn.Insn.TheVariants.{Arithmetic, Negate, SignExtend, Swap, LoadImmediate, Load, LoadSigned, Store, Call, Jump, LongJump, Branch, Exit}
use Rattle.insn.specs.declared.insn.Operand.{Operand}
use Rattle.semantics.specs.Call.{helper_of}
use Rattle.absval.specs.declared.value.AbsVal.{AbsVal}
use Rattle.absval.specs.NumberSets.{negations, extensions, swaps}
use Rattle.absval.specs.Table.{computed}
use Rattle.verify.specs.declared.state.AbsState.{AbsState}
use Rattle.verify.specs.Registers.{known_at, operand_known, first_known}
use Rattle.verify.specs.Reasons.{first_reason, is_unset, is_pointer, arithmetic_checks, write_checks, compare_checks, exit_checks}
use Rattle.verify.specs.Instructions.{straight_reason, reason_of}
use Rattle.helper.specs.Reads.{of_operand, of_first}
use Rattle.explain.specs.Shortfalls.{unset_at, pointer_at, first_unset, first_pointer, compared_at, pointer_misuse}
use Rattle.explain.proofs.RegistersTold.{or_first, or_second, Told, first_told, first_known_unset, operand_unset, register_unset, first_known_pointer, operand_pointer, computed_pointer, register_compared, operand_compared, one_unset, made_told, one_pointer}
use Rattle.explain.proofs.MemoryTold.{load_told, signed_load_told, store_told}
use Rattle.explain.proofs.CallsTold.{call_told}

second_unset : (registers : List AbsVal) (first : Option ℕ) (operand : Operand) → is_unset (operand_known registers operand) ≡ true → IsSome (first_unset registers (first ∷ of_operand operand ∷ None ∷ []))
second_unset registers first operand h = or_second (unset_at registers first) _ (or_first (unset_at registers (of_operand operand)) None (operand_unset registers operand h))

second_pointer : (registers : List AbsVal) (first : Option ℕ) (operand : Operand) → is_pointer (operand_known registers operand) ≡ true → IsSome (first_pointer registers (first ∷ of_operand operand ∷ None ∷ []))
second_pointer registers first operand h = or_second (pointer_at registers first) _ (or_first (pointer_at registers (of_operand operand)) None (operand_pointer registers operand h))

arithmetic_pointer : (registers : List AbsVal) (w : Width) (operation : Operation) (dst : ℕ) (operand : Operand) → is_unset (first_known registers operation dst) ≡ false → is_unset (operand_known registers operand) ≡ false →
    is_none (computed w operation (first_known registers operation dst) (operand_known registers operand)) ≡ true → IsSome (pointer_misuse (Arithmetic w operation dst operand) registers)
arithmetic_pointer registers w operation dst operand e f h =
    or_second _ (first_pointer registers (of_first operation dst ∷ of_operand operand ∷ None ∷ []))
    (⊎_elim (λ g. or_first (pointer_at registers (of_first operation dst)) _ (first_known_pointer registers operation dst g)) (λ g. second_pointer registers (of_first operation dst) operand g)
    (computed_pointer w operation (first_known registers operation dst) (operand_known registers operand) e f h))

arithmetic_told : (a : AbsState) (w : Width) (operation : Operation) (dst : ℕ) (operand : Operand) → Told (Arithmetic w operation dst operand) a (first_reason (arithmetic_checks a.registers w operation dst operand))
arithmetic_told a w operation dst operand =
    first_told (Arithmetic w operation dst operand) a (arithmetic_checks a.registers w operation dst operand) (
      λ e. or_first (unset_at a.registers (of_first operation dst)) _ (first_known_unset a.registers operation dst e),
      λ e. (
        λ f. second_unset a.registers (of_first operation dst) operand f,
        λ f. (
          λ g. refl,
          λ g. (λ h. arithmetic_pointer a.registers w operation dst operand e f h, λ h. tt),
        ),
      ),
    )

straight_told : (i : Insn) (a : AbsState) → Told i a (straight_reason i a)
straight_told (Arithmetic w operation dst operand) a = arithmetic_told a w operation dst operand
straight_told (Negate w dst) a = made_told (Negate w dst) a dst dst (negations w) (one_unset a.registers dst) (one_pointer a.registers dst)
straight_told (SignExtend w part dst src) a = made_told (SignExtend w part dst src) a dst src (extensions w part) (one_unset a.registers src) (one_pointer a.registers src)
straight_told (Swap order size dst) a = made_told (Swap order size dst) a dst dst (swaps order size) (one_unset a.registers dst) (one_pointer a.registers dst)
straight_told (LoadImmediate dst number) a = first_told (LoadImmediate dst number) a (write_checks dst) (λ e. refl, λ e. tt)
straight_told (Load size dst base offset) a = load_told a size dst base offset
straight_told (LoadSigned part dst base offset) a = signed_load_told a part dst base offset
straight_told (Store size base offset source) a = store_told a size base offset source
straight_told (Call number) a = call_told number a (helper_of number) refl
straight_told (Jump distance) a = tt
straight_told (LongJump distance) a = tt
straight_told (Branch w condition dst operand distance) a = tt
straight_told Exit a = tt

pub instruction_told : (i : Insn) (a : AbsState) → Told i a (reason_of i a)
instruction_told (Branch w condition dst operand distance) a =
    first_told (Branch w condition dst operand distance) a (compare_checks (known_at a.registers dst) (operand_known a.registers operand)) (
      λ e. or_first (unset_at a.registers (Some dst)) _ (register_unset a.registers dst e),
      λ e. (
        λ f. second_unset a.registers (Some dst) operand f,
        λ f. (
          λ g. or_first (compared_at a.registers (Some dst)) _ (register_compared a.registers dst g),
          λ g. (λ h. or_second (compared_at a.registers (Some dst)) _ (operand_compared a.registers operand h), λ h. tt),
        ),
      ),
    )
instruction_told Exit a = first_told Exit a (exit_checks (known_at a.registers 0)) (one_unset a.registers 0, λ e. (λ f. refl, λ f. tt))
instruction_told i a = straight_told i a
