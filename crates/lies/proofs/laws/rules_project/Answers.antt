use Rattle.lies.proofs.Projections.{proved_rules_project}
use Rattle.lies.proofs.laws.rules_project.Goals as goal

pub returns : goal.returns
returns c = proved_rules_project
