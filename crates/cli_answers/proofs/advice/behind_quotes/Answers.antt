use Rattle.std.proofs.Common.{sym, ◌∙◌}
use Rattle.text.specs.Parts.{pieces}
use Rattle.cli_answers.specs.Advice.{quote}
use Rattle.cli_answers.proofs.ItemLemmas.{last_further}
use Rattle.cli_answers.proofs.advice.behind_quotes.Goals as goal

pub loop-behind-preserved : goal.loop-behind-preserved
loop-behind-preserved c =
    sym (last_further quote c.piece.result.0.now c.in_default-Some.behind.now (pieces quote c.loop-behind.rest.now) (rw c.in_default-Some.is-1 at c.piece.ensures.first))
    ∙ c.loop-behind.invariant
