use Rattle.bounds.proofs.TightnessLaws.{proved_stories_break}
use Rattle.bounds.proofs.laws.stories_break.Goals as goal

pub returns : goal.returns
returns c = proved_stories_break
