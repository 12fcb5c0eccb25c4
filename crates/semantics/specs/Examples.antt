-- Three small programs. They show that the definitions of plain and of sound programs are true of some programs and
-- false of others (own).
use Rattle.std.specs.Prelude.{pos, List, [], ◌∷◌}
use Rattle.word.specs.declared.Width.TheVariants.{W64}
use Rattle.word.specs.declared.Operation.TheVariants.{Move}
use Rattle.insn.specs.declared.insn.Insn.{Insn}
use Rattle.insn.specs.declared.insn.Insn.TheVariants.{Arithmetic, Call, Exit}
use Rattle.insn.specs.declared.insn.Operand.TheVariants.{Immediate}
use Rattle.semantics.specs.Run.{IsSound}
use Rattle.semantics.specs.Plain.{IsPlain}

-- The program: mov r0, 42; exit.
abbrev pub answer : List Insn
answer = Arithmetic W64 Move 0 (Immediate (pos 42)) ∷ Exit ∷ []

-- The program: mov r1, 0; call board_get; exit.
abbrev pub asks : List Insn
asks = Arithmetic W64 Move 1 (Immediate (pos 0)) ∷ Call (pos 1) ∷ Exit ∷ []

-- The program: exit. It leaves r0 unset.
abbrev pub bare_exit : List Insn
bare_exit = Exit ∷ []

-- States that `answer` is plain and sound, that `asks` is sound but not plain, and that `bare_exit` is neither.
pub record SomeArePlainAndSound : Type 0 where
  pub plain : IsPlain answer
  pub sound : IsSound answer
  pub asks_not_plain : IsPlain asks → ⊥
  pub asks_sound : IsSound asks
  pub not_plain : IsPlain bare_exit → ⊥
  pub not_sound : IsSound bare_exit → ⊥
