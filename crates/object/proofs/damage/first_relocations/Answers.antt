use Rattle.std.proofs.Common.{arith}
use Rattle.object.proofs.FirstLemmas.{nothing_yet, nothing_more, found_first, nothing_left}
use Rattle.object.specs.Damage.{relocations_damage}
use Rattle.object.proofs.damage.first_relocations.Goals as goal

pub loop-index-init : goal.loop-index-init
loop-index-init c = nothing_yet (relocations_damage c.args.object.now c.args.table.now c.args.home c.args.symbols)

pub loop-index-preserved : goal.loop-index-preserved
loop-index-preserved c = nothing_more (relocations_damage c.args.object.now c.args.table.now c.args.home c.args.symbols) c.loop-index.index c.loop-index.invariant c.in-None.ensures

pub returns-in-Some : goal.returns-in-Some
returns-in-Some c = found_first (relocations_damage c.args.object.now c.args.table.now c.args.home c.args.symbols) c.args.count c.loop-index.index c.in-Some.damage (omega arith) c.loop-index.invariant c.in-Some.ensures

pub returns : goal.returns
returns c = nothing_left (relocations_damage c.args.object.now c.args.table.now c.args.home c.args.symbols) c.args.count c.loop-index.index (omega arith) c.loop-index.invariant
