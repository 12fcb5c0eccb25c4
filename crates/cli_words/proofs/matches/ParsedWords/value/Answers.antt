use Rattle.std.proofs.Common.{◌∙◌, None, cond, sym}
use Rattle.clap.specs.Words.{found_of}
use Rattle.cli_words.specs.Lab.{is_given}
use Rattle.cli_words.proofs.MetLemmas.{value_given}
use Rattle.cli_words.proofs.matches.ParsedWords.value.Goals as goal

pub returns : goal.returns
returns c = value_given (found_of c.args.self.found.now) c.args.name.now
    ∙ (λ i. cond (is_given (sym c.value_source.ensures i)) (sym c.get_str.ensures i) None) ∙ sym c.given.ensures
