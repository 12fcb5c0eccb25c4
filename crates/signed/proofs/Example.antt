-- A signed campaign within the limits, and a complete list of events.
use Rattle.std.proofs.Common.{◌≡◌, ℕ, zero, suc, [], ◌∷◌, refl, subst, Some, None, arith}
use Rattle.insn.specs.declared.insn.Insn.{Insn}
use Rattle.semantics.specs.Run.{IsSound}
use Rattle.semantics.specs.Examples.{answer}
use Rattle.semantics.proofs.SoundExample.{some_are}
use Rattle.std.specs.Prelude.{List}
use Rattle.round.specs.Scenario.{Scenario, IsScenario, program_of}
use Rattle.world.specs.KindLists.{IsComplete, listed}
use Rattle.world.proofs.Example.{zeros}
use Rattle.world.proofs.Lasting.{listed_complete}
use Rattle.signed.specs.Kind.{signed_kind}
use Rattle.signed.proofs.Worlds.{signed_campaigns}
use Rattle.signed.proofs.ProgramRows.{campaign}

-- Three generals, of whom lieutenant 2 is a traitor who makes no entry.
abbrev pub silent : Scenario
silent = campaign 3 1 1 None (None ∷ None ∷ Some answer ∷ [])

silent_sound : (g : ℕ) (program : List Insn) → program_of silent g ≡ Some program → IsSound program
silent_sound zero program is = absurd (let f : None ≡ Some program = is in cc)
silent_sound (suc zero) program is = absurd (let f : None ≡ Some program = is in cc)
silent_sound (suc (suc zero)) program is = (let f : answer ≡ program = (let e : Some answer ≡ Some program = is in cc) in subst IsSound f some_are.sound)
silent_sound (suc (suc (suc g))) program is = absurd (let f : None ≡ Some program = is in cc)

pub silent_is_scenario : IsScenario silent
silent_is_scenario = record {
  few = omega arith;
  rounds = omega arith;
  enough = omega arith;
  commander = omega arith;
  order = omega arith;
  board = zeros 64 refl;
  programs = refl;
  sound = silent_sound;
  patience = tt;
}

listed_is_complete : IsComplete signed_kind silent (listed silent ((2 ∷ 0 ∷ 2 ∷ []) ∷ []))
listed_is_complete = listed_complete signed_kind silent (signed_campaigns silent silent_is_scenario) ((2 ∷ 0 ∷ 2 ∷ []) ∷ [])
