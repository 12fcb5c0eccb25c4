use Rattle.std.proofs.Common.{◌≡◌, arith, IsTrue, false, sym, ap, ◌∙◌}
use Rattle.board.specs.Board.{Access}
use Rattle.threads.proofs.Parts.{early}
use Rattle.threads.proofs.account.is_part.Goals as goal
use Rattle.threads.proofs.account.is_part.Goals.{then-next-transcript-via-then-next-transcript, then-next-transcript-via-else-next-transcript+then-not-same}

pub returns-then-next-transcript : goal.returns-then-next-transcript
returns-then-next-transcript c = (
  (λ f. cc),
  λ e.
      let by : c.access-item.result.general ≡ c.args.general = ap (λ (a : Access). a.general) (sym c.access.view_is) ∙ c.if-access-general.true in
      let h = early c.args.general c.args.piece.now c.args.transcript.now c.loop-access.access-index c.loop-access.next c.access-item.result c.loop-access-test.true c.access-item.is by c.loop-access.invariant.0 c.loop-access.invariant.1 e in
      elim c.then-next-transcript.branch as (λ _. IsTrue false) [
        | then-next-transcript-via-then-next-transcript w ↦ absurd (omega (arith, h.0))
        | then-next-transcript-via-else-next-transcript+then-not-same w ↦ w.if-not-same.ensures.1 (h.1 w.index-transcript-next.result ∙ sym w.index-transcript-next.is)
      ],
)
