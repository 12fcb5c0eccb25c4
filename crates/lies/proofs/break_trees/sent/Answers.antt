use Rattle.std.proofs.Common.{◌≡◌, ◌∷◌, [], length, ap, ◌∙◌, arith}
use Rattle.label.specs.Labels.{others}
use Rattle.lies.proofs.CodeLemmas.{off_few}
use Rattle.lies.proofs.break_trees.sent.Goals as goal

pub message-requires-clause-few : goal.message-requires-clause-few
message-requires-clause-few g c =
    let few = off_few c.args.generals c.args.commander c.requires.commander c.requires.few in
    let so : length c.as_slice-2.result.now ≡ length (others c.args.generals (c.args.commander ∷ [])) = ap length (c.as_slice-2.ensures.value ∙ c.others-off.ensures) in
    omega arith
