use Rattle.std.proofs.Common.{◌∙◌}
use Rattle.clap.specs.Words.{found_of}
use Rattle.surveyor.proofs.FlagLemmas.{names_given}
use Rattle.surveyor.proofs.word_values.names.Goals as goal

pub returns : goal.returns
returns c = c.get_strs.ensures ∙ names_given (found_of c.args.found.now)
