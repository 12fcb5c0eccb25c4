use Rattle.bounds.proofs.TightnessLaws.{proved_stories_are_admissible}
use Rattle.bounds.proofs.laws.stories_are_admissible.Goals as goal

pub returns : goal.returns
returns c = proved_stories_are_admissible
