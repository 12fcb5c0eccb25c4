use Rattle.std.proofs.Common.{refl}
use Rattle.cli_tasks.proofs.PageLemmas.{signed_told_paged}
use Rattle.cli_tasks.proofs.pages.signed_record_paged.Goals as goal

pub returns-clause-told : goal.returns-clause-told
returns-clause-told c =
    signed_told_paged c.args.scenario.now c.args.text.now c.args.bytes.now c.args.bytes.now c.in_ok-chronicle.chronicle c.in_ok-signed_page_of.field-0.items
    c.recall.ensures refl c.in_ok-chronicle.ensures.sound c.in_ok-chronicle.ensures.chronicle c.in_ok-signed_page_of.ensures
