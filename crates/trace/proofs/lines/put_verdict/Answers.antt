use Rattle.std.specs.Prelude.{codes}
use Rattle.trace.specs.Text.{yes_no, yes_no_none}
use Rattle.trace.proofs.WrittenLemmas.{then_wrote, wrote-same}
use Rattle.trace.proofs.LineLemmas.{verdict_parts}
use Rattle.trace.proofs.lines.put_verdict.Goals as goal

pub returns : goal.returns
returns g c =
    let v = c.args.verdict in
    wrote-same _ _ (verdict_parts (codes "verdict") (codes "alike") (yes_no v.alike) (codes "obeyed") (yes_no_none v.obeyed) (codes "bound") (yes_no v.bound))
    (then_wrote (then_wrote (then_wrote (then_wrote (then_wrote (then_wrote c.put_all.ensures c.put_yes_no.ensures) c.put_all-2.ensures) c.put_yes_no_none.ensures) c.put_all-3.ensures) c.put_yes_no-2.ensures) c.put_all-4.ensures)
