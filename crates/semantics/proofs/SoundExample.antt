-- The definitions of sound and of plain are true of some programs and false of others.
use Rattle.std.proofs.Common.{◌≡◌, ℕ, zero, suc, ◌≤◌, ◌<◌, List, [], refl, sym, subst, arith, inl, inr, Some}
use Rattle.std.specs.Prelude.{ℤ, pos, replicate, All, IsSome, ◌<ℤ◌}
use Rattle.std.proofs.lemmas.List.Elements.{All-replicate}
use Rattle.word.specs.declared.Width.TheVariants.{W64}
use Rattle.word.specs.declared.Operation.TheVariants as op
use Rattle.insn.specs.declared.insn.Insn.{Insn}
use Rattle.insn.specs.declared.insn.Insn.TheVariants as i
use Rattle.insn.specs.declared.insn.Operand.TheVariants.{Immediate}
use Rattle.insn.specs.Program.{instruction_at}
use Rattle.semantics.specs.Relay.{Relay, oral}
use Rattle.semantics.specs.Execution.{step}
use Rattle.semantics.specs.Run.{onwards, after, IsOver, IsTrapped}
use Rattle.semantics.specs.Plain.{IsIn, IsOfNumbers, IsStart, reads, writes, leads_to, Unwritten, at_entry, along}
use Rattle.semantics.specs.Examples.{answer, bare_exit, SomeArePlainAndSound}
use Rattle.semantics.proofs.AskingExample.{asks_never_traps, asks_ends, asks_not_plain}

never_traps : (context : List ℕ) (relay : Relay) (answers : List (List ℕ)) (k : ℕ) → IsTrapped (after answer context relay answers k) → ⊥
unfolding onwards step
never_traps context relay answers zero trapped = trapped
never_traps context relay answers (suc zero) trapped = trapped
never_traps context relay answers (suc (suc k)) trapped = trapped

ends : (context : List ℕ) (relay : Relay) (answers : List (List ℕ)) (k : ℕ) → 2 ≤ k → IsOver (after answer context relay answers k)
unfolding onwards step
ends context relay answers zero le = absurd (omega arith)
ends context relay answers (suc zero) le = absurd (omega arith)
ends context relay answers (suc (suc k)) le = tt

trapped : (context : List ℕ) (relay : Relay) (answers : List (List ℕ)) → IsTrapped (after bare_exit context relay answers 1)
unfolding onwards step
trapped context relay answers = tt

zeros_small : (n : ℕ) → All (λ b. b < 256) (replicate n 0)
zeros_small n = All-replicate (λ b. b < 256) n 0 (omega arith)

-- The instruction at a unit of the first program.
first_insn : (insn : Insn) → instruction_at answer 0 ≡ Some insn → insn ≡ i.Arithmetic W64 op.Move 0 (Immediate (pos 42))
first_insn insn e = cc

second_insn : (insn : Insn) → instruction_at answer 1 ≡ Some insn → insn ≡ i.Exit
second_insn insn e = cc

-- No path continues without writing r0.
still_at_entry : (r : ℕ) {unit : ℕ} → Unwritten answer r unit → r ≡ 0 → unit ≡ 0
still_at_entry r at_entry e = refl
still_at_entry r (along {unit = unit} insn next before at kept leads) e =
    let here : unit ≡ 0 = still_at_entry r before e in
    let same = first_insn insn (subst (λ (u : ℕ). instruction_at answer u ≡ Some insn) here at) in
    absurd (kept (subst (λ (x : Insn). IsIn r (writes x)) (sym same) (inl e)))

one_is_later : pos 0 <ℤ pos 1
one_is_later = omega arith

second_is_there : IsSome (instruction_at answer 1)
second_is_there = refl

module _ where
  numbers : (unit : ℕ) (insn : Insn) → instruction_at answer unit ≡ Some insn → IsOfNumbers insn
  numbers zero insn e = subst (λ (x : Insn). IsOfNumbers x) (sym (first_insn insn e)) tt
  numbers (suc zero) insn e = subst (λ (x : Insn). IsOfNumbers x) (sym (second_insn insn e)) tt
  numbers (suc (suc k)) insn e = absurd cc

  forward : (unit : ℕ) (insn : Insn) (z : ℤ) → instruction_at answer unit ≡ Some insn → IsIn z (leads_to insn unit) → (pos unit <ℤ z) × IsStart answer z
  forward zero insn z e leads =
      elim (subst (λ (x : Insn). IsIn z (leads_to x 0)) (first_insn insn e) leads) [
        | inl one ↦ (subst (λ (y : ℤ). pos 0 <ℤ y) (sym one) one_is_later, (1, one, second_is_there))
        | inr none ↦ absurd none
      ]
  forward (suc zero) insn z e leads = absurd (subst (λ (x : Insn). IsIn z (leads_to x 1)) (second_insn insn e) leads)
  forward (suc (suc k)) insn z e leads = absurd cc

  written_before : (unit r : ℕ) (insn : Insn) → instruction_at answer unit ≡ Some insn → IsIn r (reads insn) → Unwritten answer r unit → ⊥
  written_before zero r insn e has path = subst (λ (x : Insn). IsIn r (reads x)) (first_insn insn e) has
  written_before (suc zero) r insn e has path =
      elim (subst (λ (x : Insn). IsIn r (reads x)) (second_insn insn e) has) [
        | inl zeroth ↦ let here = still_at_entry r path zeroth in cc
        | inr none ↦ none
      ]
  written_before (suc (suc k)) r insn e has path = cc

  frame_kept : (unit : ℕ) (insn : Insn) → instruction_at answer unit ≡ Some insn → IsIn 10 (writes insn) → ⊥
  frame_kept zero insn e has = elim (subst (λ (x : Insn). IsIn 10 (writes x)) (first_insn insn e) has) [ inl ten ↦ absurd (omega arith) | inr none ↦ none ]
  frame_kept (suc zero) insn e has = subst (λ (x : Insn). IsIn 10 (writes x)) (second_insn insn e) has
  frame_kept (suc (suc k)) insn e has = cc

pub some_are : SomeArePlainAndSound
some_are = record {
  plain = record { exit_last = refl; numbers = numbers; forward = forward; written_before = written_before; frame_kept = frame_kept };
  sound = record {
    never_traps = λ context relay answers k c h t. never_traps context relay answers k t;
    ends = λ context relay answers k c h le. ends context relay answers k le;
  };
  asks_not_plain = asks_not_plain;
  asks_sound = record {
    never_traps = λ context relay answers k c h t. asks_never_traps context relay answers k t;
    ends = λ context relay answers k c h le. asks_ends context relay answers k le;
  };
  not_plain = λ plain. plain.written_before 0 0 i.Exit refl (inl refl) at_entry;
  not_sound = λ sound. sound.never_traps (replicate 4096 0) (oral (record { generals = 4; commander = 0; general = 3; round = 1 })) [] 1
      (record { long = refl; bytes = zeros_small 4096 })
      (record { few = omega arith; commander = omega arith; general = omega arith; first = omega arith; last = omega arith })
      (trapped (replicate 4096 0) (oral (record { generals = 4; commander = 0; general = 3; round = 1 })) []);
}
