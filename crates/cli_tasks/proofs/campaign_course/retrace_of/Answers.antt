use Rattle.std.specs.Prelude.{option_map}
use Rattle.cli_tasks.specs.Serving.{IsRefusedLater}
use Rattle.cli_tasks.specs.declared.first_answer.FirstAnswer.TheVariants.{Retrace}
use Rattle.cli_tasks.specs.Whys.{Nothing}
use Rattle.cli_tasks.proofs.WhyLemmas.{stops_later}
use Rattle.cli_tasks.proofs.campaign_course.retrace_of.Goals as goal

pub returns-clause-fault : goal.returns-clause-fault
returns-clause-fault g c =
    let known = option_map g.R.Source.bytes c.args.second in
    stops_later _ c.args.reported known (IsRefusedLater (Retrace c.args.campaign.now) known) Nothing c.in_ok-bytes.bytes.items c.in-Err.refusal c.args.file c.later.result
    c.in_ok-bytes.ensures.whole (λ other. (other, (c.in_ok-bytes.bytes.items, c.in_ok-bytes.ensures.whole, rw c.as_slice.ensures.value at c.in-Err.ensures.refused)))
    (rw c.as_slice-in-Err.ensures.value at c.later.ensures)
