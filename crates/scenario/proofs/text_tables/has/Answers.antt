use Rattle.std.proofs.Common.{◌∙◌}
use Rattle.scenario.proofs.MemberLemmas.{found}
use Rattle.scenario.proofs.text_tables.has.Goals as goal

pub returns : goal.returns
returns c = c.is_some.ensures ∙ found c.get.result c.args.key.now c.args.table.now.entries c.get.ensures.value
