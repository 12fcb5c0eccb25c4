-- One more letter has at most eight entries.
use Rattle.std.proofs.Common.{◌∙◌, List, take_all, subst, arith}
use Rattle.std.specs.Prelude.{All}
use Rattle.std.proofs.lemmas.List.Elements.{All-more}
use Rattle.round.specs.Letters.{Letter}
use Rattle.signed.specs.Logs.{HasFewEntries}
use Rattle.signed.proofs.letter_sendings.recall_few.Goals as goal

pub loop-letter-preserved : goal.loop-letter-preserved
loop-letter-preserved c =
    All-more (λ (l : Letter). HasFewEntries l) c.args.letters.now c.loop-letter.letter-index c.letter-item.result c.loop-letter-test.true c.loop-letter.invariant
    (subst (λ (l : Letter). HasFewEntries l) (c.letter.view_is ∙ c.letter-item.is) c.entries-few.ensures.few)

pub returns : goal.returns
returns c =
    subst (λ (ls : List Letter). All HasFewEntries ls) (take_all c.loop-letter.letter-index c.args.letters.now (let done = c.loop-letter-test.false in omega arith)) c.loop-letter.invariant
