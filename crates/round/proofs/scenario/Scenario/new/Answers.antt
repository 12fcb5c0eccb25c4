-- The scenario's numbers are within their limits.
use Rattle.std.proofs.Common.{◌∙◌, ap, List, Option}
use Rattle.std.specs.Prelude.{slice_get}
use Rattle.insn.specs.declared.insn.Insn.{Insn}
use Rattle.round.proofs.Programs.{program_at}
use Rattle.round.proofs.scenario.Scenario.new.Goals as goal

pub invariant_of-result : goal.invariant_of-result
invariant_of-result c = record {
  few = c.requires.few;
  rounds = c.requires.rounds;
  enough = c.requires.enough;
  commander = c.requires.commander;
  order = c.ranges.order.fits;
  board = c.recall_board.ensures;
  programs = c.requires.programs;
  sound = λ g program at. c.recall_sound.ensures g program (ap (λ (seats : List (Option (List Insn))). slice_get seats g) c.as_slice.ensures.value ∙ program_at c.args.programs.items g program at);
  patience = c.requires.patience;
}
