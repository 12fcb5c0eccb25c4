use Rattle.std.proofs.Common.{◌∙◌, None, cond, sym}
use Rattle.clap.specs.Words.{found_of}
use Rattle.surveyor.specs.Flags.{is_given}
use Rattle.surveyor.proofs.FlagLemmas.{value_given}
use Rattle.surveyor.proofs.word_values.given.Goals as goal

pub returns : goal.returns
returns c = sym (value_given (found_of c.args.found.now) c.args.name.now
    ∙ (λ i. cond (is_given (sym c.value_source.ensures i)) (sym c.get_str.ensures i) None) ∙ sym c.by_words.ensures)
