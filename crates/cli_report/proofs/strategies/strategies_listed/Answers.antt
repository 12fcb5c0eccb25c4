use Rattle.std.proofs.Common.{ap, codes, ◌∙◌}
use Rattle.std.proofs.lemmas.Result.{IfOk-weaker}
use Rattle.std.specs.List.{join_by}
use Rattle.cli_report.proofs.StrategyLemmas.{join_read}
use Rattle.cli_report.proofs.strategies.strategies_listed.Goals as goal

pub returns : goal.returns
returns c =
    IfOk-weaker c.join.result _ _
    (λ text joined. joined ∙ join_read (λ name. name.now) (codes ", ") c.in_ok-names.names.items ∙ ap (join_by (λ name. name) (codes ", ")) c.in_ok-names.ensures)
    (rw c.as_slice.ensures.value at c.join.ensures.ok)
