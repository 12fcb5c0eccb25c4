use Rattle.std.proofs.Common.{ℕ, string_bytes, subst}
use Rattle.std.proofs.lemmas.Result.{IfOk-weaker}
use Rattle.cli_tasks.specs.Exploring.{IsExplored}
use Rattle.cli_tasks.proofs.ExploringLemmas.{is_explored}
use Rattle.cli_tasks.proofs.exploration.explored.Goals as goal

pub returns : goal.returns
returns c =
    let s = c.args.scenario.now in
    IfOk-weaker c.explored.result _ _
    (λ text is.
    subst (λ (most : ℕ). IsExplored s most (string_bytes text)) c.unwrap_or.ensures
    (is_explored s c.unwrap_or.result (string_bytes text) c.findings_agree.ensures c.recall.ensures is))
    c.explored.ensures
