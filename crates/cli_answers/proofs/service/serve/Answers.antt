use Rattle.std.proofs.Common.{◌≡◌, false, inr, rules}
use Rattle.cli_tasks.specs.Serving.{files}
use Rattle.cli_answers.specs.Printing.{is_shaped}
use Rattle.cli_answers.proofs.ShownLemmas.{shown_plainly}
use Rattle.cli_answers.proofs.service.serve.Goals as goal

pub returns-then-not-is_shaped-clause-done : goal.returns-then-not-is_shaped-clause-done
returns-then-not-is_shaped-clause-done g c done =
    let plain : is_shaped c.args.request.now ≡ false = cc in
    shown_plainly c.args.request.now (files g.R.Source.bytes c.args.first c.args.second) _ _ plain (c.serve.ensures.done done)

pub returns-in-Err-clause-refused : goal.returns-in-Err-clause-refused
returns-in-Err-clause-refused g c shaped one = inr (c.in-Err.failure, c.in-Err.ensures.fault, search rules, c.shown.ensures.shown one)
