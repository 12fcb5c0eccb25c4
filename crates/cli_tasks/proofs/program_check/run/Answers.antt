-- The result is that of the run in the bench setting.
use Rattle.std.proofs.Common.{◌∙◌, List, length, ap, sym, refl}
use Rattle.insn.specs.declared.insn.Insn.{Insn}
use Rattle.insn.specs.Program.{slots_of}
use Rattle.trial.specs.Setting.{Setting}
use Rattle.trial.specs.Trial.{trial_in}
use Rattle.cli_tasks.proofs.program_check.run.Goals as goal

pub returns : goal.returns
returns c =
    let program = c.args.verified.now in
    let e = c.in_ok-exited.exited in
    record {
      accepted = c.requires.accepted;
      sound = c.program-program.ensures.sound;
      instructions = c.len.ensures.len ∙ ap length c.program-program.ensures.same;
      units = c.units.ensures.units ∙ ap (λ (p : List Insn). length (slots_of p)) c.program-program.ensures.same;
      ending = record { r0 = e.r0; state = e.activation.state; words = e.board.words };
      ended = ap (λ (s : Setting). trial_in s program) (sym c.bench.ensures) ∙ c.in_ok-exited.ensures.ending;
      r0 = refl;
      steps = c.steps.ensures;
    }
