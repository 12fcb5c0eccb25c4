use Rattle.std.proofs.Common.{arith}
use Rattle.std.proofs.lemmas.List.{take_all}
use Rattle.surveyor.proofs.CoverLemmas.{ends_are}
use Rattle.surveyor.proofs.file_sums.ends.Goals as goal

pub returns : goal.returns
returns c = rw (c.loop-finding.invariant, take_all c.loop-finding.finding-index c.args.all.now (let h = c.loop-finding-test.false in omega arith)) (ends_are c.args.all.now)
