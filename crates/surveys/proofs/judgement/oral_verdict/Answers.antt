use Rattle.std.proofs.Common.{List, ap, ◌∙◌}
use Rattle.world.specs.Chronicle.{Chronicle, chronicle_of}
use Rattle.world.specs.Lists.{listed}
use Rattle.world.specs.Schedules.{lines_by}
use Rattle.world.specs.World.{opening, run}
use Rattle.world.specs.declared.schedule.Repeat.{Repeat}
use Rattle.surveys.proofs.judgement.oral_verdict.Goals as goal

pub returns-clause-same : goal.returns-clause-same
returns-clause-same c =
    let s = c.args.scenario in
    c.verdict.ensures ∙ (ap (λ (t : Chronicle). t.verdict) c.in_ok-chronicle.ensures.listed
    ∙ ap (λ (lines : List (List Repeat)). (chronicle_of (run (opening s) (listed s (lines_by lines)))).verdict) c.unscheduled.ensures)
