use Rattle.std.proofs.Common.{None, Some}
use Rattle.rows.proofs.PartingLemmas.{as_stored}
use Rattle.rows.proofs.comparison.compare.Goals as goal

pub returns-in-None-clause-same : goal.returns-in-None-clause-same
returns-in-None-clause-same c = as_stored c.args.told.now c.args.stored.now c.differing_line.result None c.differing_line.ensures c.in-None.is

pub returns-in-Some-clause-same : goal.returns-in-Some-clause-same
returns-in-Some-clause-same c = as_stored c.args.told.now c.args.stored.now c.differing_line.result (Some c.in-Some.line) c.differing_line.ensures c.in-Some.is
