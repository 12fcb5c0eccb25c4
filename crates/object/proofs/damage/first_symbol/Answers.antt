use Rattle.std.proofs.Common.{length, ◌/◌, arith}
use Rattle.object.proofs.FirstLemmas.{nothing_yet, nothing_more, found_first, nothing_left}
use Rattle.object.specs.Damage.{symbol_damage}
use Rattle.object.proofs.damage.first_symbol.Goals as goal

pub loop-index-init : goal.loop-index-init
loop-index-init c = nothing_yet (symbol_damage c.args.table.now c.args.symbols.now c.args.strings.now)

pub loop-index-preserved : goal.loop-index-preserved
loop-index-preserved c = nothing_more (symbol_damage c.args.table.now c.args.symbols.now c.args.strings.now) c.loop-index.index c.loop-index.invariant c.in-None.ensures

pub returns-in-Some : goal.returns-in-Some
returns-in-Some c = found_first (symbol_damage c.args.table.now c.args.symbols.now c.args.strings.now) (length c.args.symbols.now / 24) c.loop-index.index c.in-Some.damage (omega arith) c.loop-index.invariant c.in-Some.ensures

pub returns : goal.returns
returns c = nothing_left (symbol_damage c.args.table.now c.args.symbols.now c.args.strings.now) (length c.args.symbols.now / 24) c.loop-index.index (omega arith) c.loop-index.invariant
