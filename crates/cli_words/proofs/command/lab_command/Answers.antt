use Rattle.std.proofs.lemmas.Result.{IfOk-weaker}
use Rattle.clap.specs.Words.{app_of}
use Rattle.cli_words.specs.Asked.{words_of}
use Rattle.cli_words.proofs.CommandLemmas.{lab_is}
use Rattle.cli_words.proofs.command.lab_command.Goals as goal

pub returns-clause-shape : goal.returns-clause-shape
returns-clause-shape c = IfOk-weaker c.described.result _ _
    (λ whole is. lab_is (words_of c.args.words.now) (app_of c.new.result) (app_of c.in_ok-lab.lab) (app_of whole) c.subcommands_for-named.result.now c.new.ensures.app c.in_ok-lab.ensures c.subcommands_for-named.ensures is) c.described.ensures.shape
