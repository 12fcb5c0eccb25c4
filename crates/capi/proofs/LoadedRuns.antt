-- Lemmas about the runs of a loaded program.
use Rattle.std.proofs.Common.{◌≡◌, ◌∙◌, ℕ, List, Some, sym, subst}
use Rattle.std.specs.Prelude.{Option}
use Rattle.insn.specs.declared.insn.Insn.{Insn}
use Rattle.codec.specs.Program.{SpellsProgram}
use Rattle.capi.specs.Runs.{Exits, IsRun}
use Rattle.capi.specs.Loads.{IsLoaded}

-- A run of the loaded program is a run of the bytes from which it was loaded.
pub runs_loaded : (bytes context words : List ℕ) (loaded : Option (List Insn)) (program : List Insn) (r0 steps : ℕ) (left : List ℕ) → loaded ≡ Some program → Exits words program context r0 steps left →
    IsLoaded bytes loaded → IsRun bytes context words r0 steps left
runs_loaded bytes context words loaded program r0 steps left is exits was =
    let both : Some was.program ≡ Some program = sym was.is ∙ is in
    let same : was.program ≡ program = cc in
    record { program = program; spelt = subst (λ (p : List Insn). SpellsProgram bytes p) same was.spelt; exits = exits }
