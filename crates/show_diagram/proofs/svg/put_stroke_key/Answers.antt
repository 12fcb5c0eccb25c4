use Rattle.std.proofs.Common.{codes}
use Rattle.std.specs.String.{string_bytes}
use Rattle.show_diagram.specs.Shapes.{said_if}
use Rattle.show_diagram.proofs.LegendLemmas.{three_parts}
use Rattle.show_diagram.proofs.svg.put_stroke_key.Goals as goal

pub returns : goal.returns
returns c =
    three_parts (string_bytes c.args.out.now) (said_if c.args.marks.circle (codes " Circle and plain line: as an honest relay sends it."))
    (said_if c.args.marks.diamond (codes " Diamond and dashes: an honest relay would send something else.")) (said_if c.args.marks.cross (codes " Cross and dots: nothing was sent, but an order should be sent."))
    (string_bytes c.put_if.new.out) (string_bytes c.put_if-2.new.out) (string_bytes c.put_if-3.new.out)
    c.in_ok-put_if.ensures c.in_ok-put_if-2.ensures c.in_ok-put_if-3.ensures
