use Rattle.std.proofs.Common.{arith, sym, refl}
use Rattle.object.specs.Sources.{origins_of}
use Rattle.object.proofs.RowLemmas.{comes_first, comes_as, machine_at}
use Rattle.object.proofs.rows.read_rows.Goals as goal

pub loop-place-init : goal.loop-place-init
loop-place-init c = record {
  inside = c.requires.begins;
  come = rw c.at_start-registers.ensures
      (comes_first c.args.header c.args.source.now.bytes.now (origins_of c.args.source.now) c.new-rows.result.items c.new-rows.ensures.items);
}

pub returns-in_default : goal.returns-in_default
returns-in_default c =
    (machine_at c.loop-place.place c.loop-place.registers c.loop-place.rows.items, c.loop-place.invariant.come, c.loop-place-test.true, sym c.in_default.ensures.read)

pub loop-place-preserved : goal.loop-place-preserved
loop-place-preserved c = record {
  inside = c.in-Some.ensures.within;
  come = comes_as c.args.header c.args.source.now.bytes.now (origins_of c.args.source.now) c.loop-place.place c.loop-place.registers
      c.loop-place.rows.items c.in-Some.stepped c.after-registers.result c.put_row.new.rows.items c.loop-place.invariant.come
      c.in-Some.ensures.read c.after-registers.ensures c.in_ok-put_row.ensures;
}

pub returns : goal.returns
returns c =
    (machine_at c.loop-place.place c.loop-place.registers c.loop-place.rows.items, c.loop-place.invariant.come, omega arith, refl)
