use Rattle.std.proofs.Common.{length, ◌-◌, arith}
use Rattle.object.proofs.FirstLemmas.{nothing_yet, nothing_more, found_first, nothing_left}
use Rattle.object.specs.Names.{empty_here}
use Rattle.object.proofs.names.directories_end.Goals as goal

pub loop-n-init : goal.loop-n-init
loop-n-init c = nothing_yet (empty_here c.args.tables c.args.bytes.now)

pub loop-n-preserved : goal.loop-n-preserved
loop-n-preserved c = nothing_more (empty_here c.args.tables c.args.bytes.now) c.loop-n.n c.loop-n.invariant c.in-None.ensures.here

pub returns-in-Some-clause-first : goal.returns-in-Some-clause-first
returns-in-Some-clause-first c = found_first (empty_here c.args.tables c.args.bytes.now) (length c.args.bytes.now - c.args.tables) c.loop-n.n c.in-Some.place (omega arith) c.loop-n.invariant c.in-Some.ensures.here

pub returns-clause-first : goal.returns-clause-first
returns-clause-first c = nothing_left (empty_here c.args.tables c.args.bytes.now) (length c.args.bytes.now - c.args.tables) c.loop-n.n (omega arith) c.loop-n.invariant
