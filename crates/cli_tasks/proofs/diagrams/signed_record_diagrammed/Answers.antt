use Rattle.std.proofs.Common.{refl}
use Rattle.cli_tasks.proofs.DiagramLemmas.{signed_told_drawn}
use Rattle.cli_tasks.proofs.diagrams.signed_record_diagrammed.Goals as goal

pub returns-clause-drawn : goal.returns-clause-drawn
returns-clause-drawn c =
    signed_told_drawn c.args.scenario.now c.args.bytes.now c.args.bytes.now c.in_ok-chronicle.chronicle c.in_ok-signed_diagram_of.field-0.items
    c.recall.ensures refl c.in_ok-chronicle.ensures.sound c.in_ok-chronicle.ensures.chronicle c.in_ok-signed_diagram_of.ensures
