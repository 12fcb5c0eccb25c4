use Rattle.std.proofs.Common.{ap, option_map, ◌∙◌}
use Rattle.serde_json.proofs.Views.{view-lookup, view_of_ref}
use Rattle.serde_json.specs.View.{view}
use Rattle.cli_answers.proofs.position.number_at.Goals as goal

pub returns-in-Some : goal.returns-in-Some
returns-in-Some c =
    let found = view_of_ref c.get.result ∙ (ap (option_map view) c.get.ensures.value ∙ view-lookup c.args.name.now c.args.object.now.entries) in
    c.as_u64.ensures ∙ rw (← rw c.in-Some.is at found)

pub returns-in-None : goal.returns-in-None
returns-in-None c =
    let found = view_of_ref c.get.result ∙ (ap (option_map view) c.get.ensures.value ∙ view-lookup c.args.name.now c.args.object.now.entries) in
    rw (← rw c.in-None.is at found)
