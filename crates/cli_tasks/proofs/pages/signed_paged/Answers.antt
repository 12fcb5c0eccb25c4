use Rattle.cli_tasks.proofs.PageLemmas.{signed_played_paged}
use Rattle.cli_tasks.proofs.pages.signed_paged.Goals as goal

pub returns : goal.returns
returns c =
    signed_played_paged c.args.scenario c.args.text.now c.args.schedule.now c.in_ok-chronicle.chronicle c.in_ok-signed_page_of.field-0.items c.recall.ensures
    c.in_ok-chronicle.ensures.listed c.in_ok-signed_page_of.ensures
