use Rattle.std.proofs.Common.{◌++◌, ◌∙◌, ap}
use Rattle.std.specs.String.{string_bytes}
use Rattle.combine.specs.declared.campaign_rule.Rule.{Rule}
use Rattle.table_scenario.specs.Scenarios.{numbers_text, rule_text, scenario_text, traitors_text}
use Rattle.table_scenario.proofs.Pieces.{two_pieces}
use Rattle.table_scenario.proofs.writer.scenario_of.Goals as goal

pub returns : goal.returns
unfolding scenario_text
returns g c =
    let t = g.H.Heard.seen c.args.table.now in
    two_pieces (numbers_text t) (string_bytes c.push_rule.new.text) (string_bytes c.push_traitors.new.text) (rule_text t.rule) (traitors_text t c.args.traitors.now)
    (c.in_ok-push_rule.ensures ∙ (ap (λ x. x ++ rule_text c.rule.result) c.in_ok-text.ensures ∙ ap (λ (r : Rule). numbers_text t ++ rule_text r) c.rule.ensures))
    c.in_ok-push_traitors.ensures
