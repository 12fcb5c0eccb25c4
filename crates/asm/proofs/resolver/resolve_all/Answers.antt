use Rattle.std.proofs.Common.{◌≡◌, ◌<◌, length, get_or, arith}
use Rattle.asm.proofs.ResolveLemmas.{slots_pushed, units_left, kepts_left, insns_left}
use Rattle.asm.proofs.SaidLemmas.{insns_well_pushed, kept_well_at}
use Rattle.asm.proofs.resolver.resolve_all.Goals as goal

pub loop-kept-preserved : goal.loop-kept-preserved
loop-kept-preserved c =
    let more : c.loop-kept.kept-index < length c.args.reading.now.sources.items = omega arith in
    let at : c.kept-item.result ≡ get_or c.args.reading.now.sources.items c.loop-kept.kept-index c.kept-item.result = cc (c.kept-item.is, c.deref-kept-items.ensures.value) in
    record {
      slots = slots_pushed c.loop-kept.insns.items _ c.in-Ok.insn _ _ _ c.loop-kept.invariant.slots c.in_ok-push-in-Ok.ensures.items c.in-Ok.ensures.units c.units-unit.ensures.units;
      room = units_left c.args.reading.now.sources.items c.loop-kept.kept-index _ _ c.kept-item.result more at c.units-unit.ensures.units c.loop-kept.invariant.room;
      done = λ r k. insns_left r.names c.loop-kept.insns.items _ c.in-Ok.insn c.loop-kept.unit _ _ _ _ _ (kepts_left c.args.reading.now.sources.items c.loop-kept.kept-index c.kept-item.result more at) (c.in-Ok.ensures.said r.names k.names) c.in_ok-push-in-Ok.ensures.items c.units-unit.ensures.units (c.loop-kept.invariant.done r k);
      well = insns_well_pushed c.loop-kept.insns.items _ c.in-Ok.insn c.loop-kept.invariant.well (c.in-Ok.ensures.well (kept_well_at c.args.reading.now.sources.items c.loop-kept.kept-index c.kept-item.result c.requires.well more at)) c.in_ok-push-in-Ok.ensures.items;
    }
