use Rattle.std.specs.Prelude.{codes}
use Rattle.combine.specs.Rule.{rule_name}
use Rattle.trace.specs.Text.{place}
use Rattle.trace.proofs.WrittenLemmas.{then_wrote, wrote-same}
use Rattle.trace.proofs.LineLemmas.{four_words}
use Rattle.trace.proofs.heading.put_conditions.Goals as goal

pub returns : goal.returns
returns g c =
    wrote-same _ _ (four_words (codes "patience") (place c.args.patience) (codes "rule") (rule_name c.args.rule))
    (then_wrote (then_wrote (then_wrote c.put_all.ensures c.put_order.ensures) c.put_all-2.ensures) c.put_rule.ensures)
