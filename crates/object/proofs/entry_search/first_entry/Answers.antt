use Rattle.std.proofs.Common.{length, ◌/◌, arith}
use Rattle.object.proofs.FirstLemmas.{nothing_yet, nothing_more, found_first, nothing_left}
use Rattle.object.specs.Symbol.{asked, entry_here}
use Rattle.object.proofs.entry_search.first_entry.Goals as goal

pub loop-index-init : goal.loop-index-init
loop-index-init c = nothing_yet (entry_here c.args.table.now c.args.symbols.now c.args.strings.now (asked c.args.name) c.args.least)

pub loop-index-preserved : goal.loop-index-preserved
loop-index-preserved c = nothing_more (entry_here c.args.table.now c.args.symbols.now c.args.strings.now (asked c.args.name) c.args.least) c.loop-index.index c.loop-index.invariant c.in-None.ensures.here

pub returns-in-Some-clause-first : goal.returns-in-Some-clause-first
returns-in-Some-clause-first c = found_first (entry_here c.args.table.now c.args.symbols.now c.args.strings.now (asked c.args.name) c.args.least) (length c.args.symbols.now / 24) c.loop-index.index c.in-Some.found (omega arith) c.loop-index.invariant c.in-Some.ensures.here

pub returns-clause-first : goal.returns-clause-first
returns-clause-first c = nothing_left (entry_here c.args.table.now c.args.symbols.now c.args.strings.now (asked c.args.name) c.args.least) (length c.args.symbols.now / 24) c.loop-index.index (omega arith) c.loop-index.invariant
