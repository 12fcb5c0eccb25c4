use Rattle.std.proofs.lemmas.Result.{IfOk-weaker}
use Rattle.cli_words.specs.Asked.{words_of}
use Rattle.byzlab.proofs.called.Goals as goal

pub returns-clause-done : goal.returns-clause-done
returns-clause-done g c =
    IfOk-weaker c.done_each.result _ _ (λ endings done. (words_of c.as_slice.result.now, done)) c.done_each.ensures.done
