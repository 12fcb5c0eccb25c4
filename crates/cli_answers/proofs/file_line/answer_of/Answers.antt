use Rattle.cli_answers.specs.Labels.{at_first}
use Rattle.cli_answers.proofs.CleanLemmas.{line_clean}
use Rattle.cli_answers.proofs.file_line.answer_of.Goals as goal

pub named-requires : goal.named-requires
named-requires c = rw (c.in_ok-object.ensures, c.at_first.ensures) (line_clean at_first c.args.line.now)
