use Rattle.std.proofs.Common.{◌≡◌, ◌-◌, suc, sym, arith}
use Rattle.show_diagram.proofs.LayoutLemmas.{one_above}
use Rattle.show_diagram.proofs.layout.+top_of.Goals as goal

pub returns-clause-value : goal.returns-clause-value
returns-clause-value t c =
    let ne = c.if-rounds-eq0.false in
    let more : c.args.rounds ≡ suc (c.args.rounds - 1) = omega arith in
    rw (c.top_of.ensures.value, c.height.ensures.value, c.from.ensures) (sym (one_above c.args.generals c.args.strokes.now c.args.accesses.now c.args.rounds (c.args.rounds - 1) more))
