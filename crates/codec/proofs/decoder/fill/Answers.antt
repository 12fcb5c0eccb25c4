use Rattle.std.proofs.Common.{◌<◌, ◌+◌, length, slice_set, refl, arith}
use Rattle.codec.proofs.ProgramLemmas.{fill_more}
use Rattle.codec.proofs.decoder.fill.Goals as goal

pub loop-unit-preserved : goal.loop-unit-preserved
loop-unit-preserved c =
    let more : c.loop-unit.unit < length c.args.places.now = omega (arith, c.loop-unit.invariant.same, c.loop-unit-test.true) in
    fill_more c.args.bytes.now c.loop-unit.places (slice_set c.loop-unit.places c.loop-unit.count c.read.new.place) c.loop-unit.count c.loop-unit.unit (c.loop-unit.unit + c.in-Ok.units) (length c.args.places.now) c.read.new.place _
    c.requires.whole c.loop-unit.invariant more refl c.in-Ok.ensures.well_formed c.in-Ok.ensures.inside c.in-Ok.ensures.found refl (omega (arith, c.in-Ok.ensures.units))
