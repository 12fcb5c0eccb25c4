-- The run begins with a board on which all words are 0.
use Rattle.std.proofs.lemmas.Result.{IfOk-weaker}
use Rattle.capi.proofs.host.run_afresh.Goals as goal

pub returns : goal.returns
returns c =
    let program = c.args.verified.now in
    let left = c.run_begun.new.words in
    IfOk-weaker c.run_begun.result _ _ (λ o exits bytes spelt. record {
      left = left;
      run = record { program = program; spelt = spelt; exits = exits };
    }) c.run_begun.ensures.exits
