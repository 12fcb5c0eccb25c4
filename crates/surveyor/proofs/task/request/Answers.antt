use Rattle.clap.specs.Words.{app_of, found_of, rows_of}
use Rattle.surveyor.specs.Flags.{words_of}
use Rattle.surveyor.proofs.MeantLemmas.{meant_found, meant_refused, meant_taken, untaken}
use Rattle.surveyor.proofs.task.request.Goals as goal

pub returns-in-Ok-clause-found : goal.returns-in-Ok-clause-found
returns-in-Ok-clause-found c = meant_found (app_of c.in_ok-command.command) (words_of c.args.words.now) (rows_of (found_of c.in-Ok.found)) c.meant.result c.in_ok-command.ensures (λ e. (c.in-Ok.ensures.matches e).0) c.meant.ensures.told

pub returns-in-Ok-clause-taken : goal.returns-in-Ok-clause-taken
returns-in-Ok-clause-taken c = meant_taken (app_of c.in_ok-command.command) (words_of c.args.words.now) c.meant.result c.in_ok-command.ensures c.in-Ok.ensures.kinds

pub returns-in-Ok-clause-refused : goal.returns-in-Ok-clause-refused
returns-in-Ok-clause-refused c = meant_refused (app_of c.in_ok-command.command) (words_of c.args.words.now) (rows_of (found_of c.in-Ok.found)) c.meant.result c.in_ok-command.ensures (λ e. (c.in-Ok.ensures.matches e).0) c.meant.ensures.refused

pub returns-clause-refused : goal.returns-clause-refused
returns-clause-refused c = untaken (app_of c.in_ok-command.command) (words_of c.args.words.now) c.in-Err.error c.untaken.result c.in_ok-command.ensures c.untaken.ensures c.in-Err.ensures.kinds
