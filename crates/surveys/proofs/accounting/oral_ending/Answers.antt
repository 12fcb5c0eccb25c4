use Rattle.std.proofs.Common.{List, ap, subst, sym, ◌∙◌}
use Rattle.std.proofs.lemmas.Result.{IfOk-weaker}
use Rattle.world.specs.Chronicle.{Chronicle, chronicle_of}
use Rattle.world.specs.Lists.{listed}
use Rattle.world.specs.Promises.{IsWellUnderBound}
use Rattle.world.specs.Schedules.{lines_by}
use Rattle.world.specs.World.{opening, run}
use Rattle.world.specs.declared.schedule.Repeat.{Repeat}
use Rattle.surveys.proofs.accounting.oral_ending.Goals as goal

pub returns-clause-verdict : goal.returns-clause-verdict
returns-clause-verdict c =
    let s = c.args.scenario in
    IfOk-weaker c.ended.result _ _ (λ e is. is ∙ (c.verdict.ensures ∙ (ap (λ (t : Chronicle). t.verdict) c.in_ok-chronicle.ensures.listed
    ∙ ap (λ (lines : List (List Repeat)). (chronicle_of (run (opening s) (listed s (lines_by lines)))).verdict) c.unscheduled.ensures))) c.ended.ensures.verdict

pub returns-clause-decisions : goal.returns-clause-decisions
returns-clause-decisions c =
    let s = c.args.scenario in
    IfOk-weaker c.ended.result _ _ (λ e is. is ∙ (c.decisions.ensures ∙ (ap (λ (t : Chronicle). t.decisions) c.in_ok-chronicle.ensures.listed
    ∙ ap (λ (lines : List (List Repeat)). (chronicle_of (run (opening s) (listed s (lines_by lines)))).decisions) c.unscheduled.ensures))) c.ended.ensures.decisions

pub returns-clause-well : goal.returns-clause-well
returns-clause-well c =
    IfOk-weaker c.ended.result _ _ (λ e is. subst IsWellUnderBound (sym (is ∙ c.verdict.ensures)) c.in_ok-chronicle.ensures.well) c.ended.ensures.verdict
