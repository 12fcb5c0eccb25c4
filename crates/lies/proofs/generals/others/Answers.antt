use Rattle.std.proofs.Common.{◌≡◌, ◌<◌, not, length, sym, ap, ◌∙◌, arith, lit<}
use Rattle.label.specs.Labels.{on, others}
use Rattle.book.proofs.Steps.{others-more_no, others-more_yes}
use Rattle.lies.proofs.CodeLemmas.{filter_few}
use Rattle.lies.proofs.generals.others.Goals as goal
use Rattle.lies.proofs.generals.others.Goals.{then-not-is_among, else-not-is_among}

pub push-requires : goal.push-requires
push-requires c =
    let few = filter_few (λ g. not (on c.args.generals.now g)) c.loop-general.general in
    let so : length c.loop-general.rest.items ≡ length (others c.loop-general.general c.args.generals.now) = ap length c.loop-general.invariant in
    let limit = c.requires in
    let test = c.loop-general-test.true in
    let room : length c.loop-general.rest.items < 13 = omega arith in
    (lit< tt, room)

pub loop-general-preserved : goal.loop-general-preserved
loop-general-preserved c = elim c.if-not-is_among.branch [
  | then-not-is_among w ↦ rw (w.rest-is, w.push.ensures.items, c.loop-general.invariant) (sym (others-more_yes c.args.generals.now c.loop-general.general (sym c.is_among.ensures ∙ w.if-not-is_among.true)))
  | else-not-is_among w ↦ rw (w.rest-is, c.loop-general.invariant) (sym (others-more_no c.args.generals.now c.loop-general.general (sym c.is_among.ensures ∙ w.if-not-is_among.false)))
]
