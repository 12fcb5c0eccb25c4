use Rattle.cli_answers.proofs.advice.edit_in.Goals as goal

pub returns : goal.returns
returns c = rw (← c.in_ok-instructions.ensures, ← c.behind_quotes.ensures) c.edit_by.ensures
