use Rattle.cli_tasks.proofs.DiagramLemmas.{signed_played_drawn}
use Rattle.cli_tasks.proofs.diagrams.signed_diagrammed.Goals as goal

pub returns : goal.returns
returns c =
    signed_played_drawn c.args.scenario c.args.schedule.now c.in_ok-chronicle.chronicle c.in_ok-signed_diagram_of.field-0.items c.recall.ensures
    c.in_ok-chronicle.ensures.listed c.in_ok-signed_diagram_of.ensures
