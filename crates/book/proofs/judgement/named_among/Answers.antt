use Rattle.std.proofs.Common.{◌∙◌, arith, sym}
use Rattle.label.specs.Labels.{on}
use Rattle.book.proofs.Gathering.{count_yes, count_no}
use Rattle.book.proofs.judgement.named_among.Goals as goal
use Rattle.book.proofs.judgement.named_among.Goals.{then-is_named, else-is_named}

pub loop-general-preserved : goal.loop-general-preserved
loop-general-preserved c =
    elim c.if-is_named.branch [
      | then-is_named w ↦
          let more = count_yes (on c.args.traitors.now) c.loop-general.general (sym c.is_named.ensures ∙ w.if-is_named.true) in
          record { count = rw (w.named-is, c.loop-general.invariant.count) (sym more); few = omega arith }
      | else-is_named w ↦
          let same = count_no (on c.args.traitors.now) c.loop-general.general (sym c.is_named.ensures ∙ w.if-is_named.false) in
          record { count = rw (w.named-is, c.loop-general.invariant.count) (sym same); few = omega arith }
    ]
