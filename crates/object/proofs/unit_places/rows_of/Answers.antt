use Rattle.object.proofs.TextLemmas.{are_rows, no_rows}
use Rattle.object.specs.Sources.{origins_of}
use Rattle.object.proofs.unit_places.rows_of.Goals as goal

pub returns-in-Some-2 : goal.returns-in-Some-2
returns-in-Some-2 c =
    are_rows c.args.object.now c.args.section c.args.header c.in-Some.header c.lines_in.result.now c.source_in-source.result.bytes.now (origins_of c.source_in-source.result)
    c.in-Some-2.rows.items c.in-Some.is c.lines_in.ensures.read c.source_in-source.ensures.bytes c.source_in-source.ensures.origins
    (rw c.in-Some-2.is at c.in_ok-rows.ensures)

pub returns-in-None : goal.returns-in-None
returns-in-None c =
    no_rows c.args.object.now c.args.section c.args.header c.in-Some.header c.lines_in.result.now c.source_in-source.result.bytes.now (origins_of c.source_in-source.result)
    c.new-in-None.result.items c.in-Some.is c.lines_in.ensures.read c.source_in-source.ensures.bytes c.source_in-source.ensures.origins
    (rw c.in-None.is at c.in_ok-rows.ensures) c.new-in-None.ensures.items
