use Rattle.std.proofs.Common.{inr}
use Rattle.std.proofs.lemmas.Result.{IfOk-weaker, IfErr-weaker}
use Rattle.surveyor.specs.Flags.{words_of}
use Rattle.surveyor.proofs.called.Goals as goal

pub returns-clause-asked : goal.returns-clause-asked
returns-clause-asked g c =
    IfOk-weaker c.answered.result _ _ (λ ending asked. (words_of c.as_slice.result.now, asked)) c.answered.ensures.asked

pub returns-clause-undone : goal.returns-clause-undone
returns-clause-undone g c =
    IfErr-weaker c.answered.result _ _ (λ fault undone. inr (inr (words_of c.as_slice.result.now, undone.0, undone.1, undone.2))) c.answered.ensures.undone
