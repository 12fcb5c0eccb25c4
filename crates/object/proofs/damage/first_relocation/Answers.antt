use Rattle.std.proofs.Common.{length, ◌/◌, arith}
use Rattle.object.proofs.FirstLemmas.{nothing_yet, nothing_more, found_first, nothing_left}
use Rattle.object.specs.Damage.{relocation_damage}
use Rattle.object.proofs.damage.first_relocation.Goals as goal

pub loop-index-init : goal.loop-index-init
loop-index-init c = nothing_yet (relocation_damage c.args.section c.args.symbols c.args.size c.args.relocations.now)

pub loop-index-preserved : goal.loop-index-preserved
loop-index-preserved c = nothing_more (relocation_damage c.args.section c.args.symbols c.args.size c.args.relocations.now) c.loop-index.index c.loop-index.invariant c.in-None.ensures

pub returns-in-Some : goal.returns-in-Some
returns-in-Some c = found_first (relocation_damage c.args.section c.args.symbols c.args.size c.args.relocations.now) (length c.args.relocations.now / c.args.size) c.loop-index.index c.in-Some.damage (omega arith) c.loop-index.invariant c.in-Some.ensures

pub returns : goal.returns
returns c = nothing_left (relocation_damage c.args.section c.args.symbols c.args.size c.args.relocations.now) (length c.args.relocations.now / c.args.size) c.loop-index.index (omega arith) c.loop-index.invariant
