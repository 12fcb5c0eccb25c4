use Rattle.trace.proofs.WrittenLemmas.{then_wrote, wrote-same}
use Rattle.trace.proofs.LineLemmas.{decision_parts}
use Rattle.trace.proofs.lines.put_decision.Goals as goal

pub returns : goal.returns
returns g c =
    wrote-same _ _ (decision_parts c.args.general c.args.is_traitor c.args.decision) (then_wrote (then_wrote (then_wrote c.put_headed.ensures c.put_mark.ensures) c.put_next.ensures) c.put_all.ensures)
