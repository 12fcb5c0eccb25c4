use Rattle.std.proofs.Common.{sym, ◌∙◌, ap}
use Rattle.logbook.specs.Pages.{Named}
use Rattle.shared_board.proofs.Entering.{enters_moves}
use Rattle.shared_board.proofs.desk.enter.Goals as goal

pub compare_exchange-found-requires : goal.compare_exchange-found-requires
compare_exchange-found-requires c =
    let h = c.requires.head in
    let offer = c.plain-offer.ensures in
    let pen = c.no_pen-pen.ensures in (
      ap (λ (w : Named). w.tracked) h,
      sym (ap (λ (w : Named). w.book) h),
      pen.0 ∙ sym (ap (λ (w : Named). w.book) h),
      offer.0,
      rw (ap (λ (w : Named). w.key) h, pen.1, offer.1, offer.3) (enters_moves c.args.seen.now.log c.args.access.now c.args.count),
    )
