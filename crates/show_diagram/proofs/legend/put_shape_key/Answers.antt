use Rattle.std.proofs.Common.{codes}
use Rattle.std.specs.String.{string_bytes}
use Rattle.show_diagram.specs.Shapes.{said_if}
use Rattle.show_diagram.proofs.LegendLemmas.{three_parts}
use Rattle.show_diagram.proofs.legend.put_shape_key.Goals as goal

pub returns : goal.returns
returns c =
    three_parts (string_bytes c.args.out.now) (said_if c.args.marks.point (codes " Above the lines are the accesses to the board, in its order."))
    (said_if c.args.marks.square (codes " Square: a traitor.")) (said_if c.args.marks.loyal (codes " Circle at a name: a loyal general."))
    (string_bytes c.put_if.new.out) (string_bytes c.put_if-2.new.out) (string_bytes c.put_if-3.new.out)
    c.in_ok-put_if.ensures c.in_ok-put_if-2.ensures c.in_ok-put_if-3.ensures
