use Rattle.trace.proofs.PartingLemmas.{line_and_rest, no_feed}
use Rattle.trace.proofs.first_line.parted.Goals as goal

pub returns-in-Some-clause-first : goal.returns-in-Some-clause-first
returns-in-Some-clause-first c = line_and_rest c.args.text.now c.in-Some.end c.in-Some.ensures.0.high c.in-Some.ensures.0.before c.in-Some.ensures.1

pub returns-in-None-clause-first : goal.returns-in-None-clause-first
returns-in-None-clause-first c = no_feed c.args.text.now c.in-None.ensures
