use Rattle.rows.proofs.PartingLemmas.{ends_before}
use Rattle.rows.proofs.comparison.differing_line.Goals as goal

pub returns-in_default : goal.returns-in_default
returns-in_default c = ends_before c.loop-byte.line c.loop-byte.byte-index c.args.told.now c.args.stored.now c.loop-byte.rest.now c.loop-byte.invariant.goes_on c.in_default.len_below c.loop-byte-test.true
