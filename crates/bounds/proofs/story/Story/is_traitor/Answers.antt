use Rattle.std.proofs.Common.{ap, ◌∙◌}
use Rattle.std.specs.Prelude.{◌==◌}
use Rattle.bounds.specs.Stories.{group_of, is_traitor_in}
use Rattle.bounds.proofs.story.Story.is_traitor.Goals as goal

pub returns : goal.returns
unfolding is_traitor_in
returns c = ap (λ g. g == c.lying_group.result) c.group_of.ensures ∙ ap (λ g. group_of c.args.commander c.args.general == g) c.lying_group.ensures
