use Rattle.std.specs.String.{string_bytes}
use Rattle.show_diagram.proofs.LegendLemmas.{three_shapes}
use Rattle.show_diagram.proofs.legend.put_shape_meanings.Goals as goal

pub returns : goal.returns
returns c =
    three_shapes c.args.marks c.args.place c.shape_of-square.result.now c.shape_of-circle.result.now c.access_outline-point.result.now
    c.one_if.result c.one_if-2.result (string_bytes c.args.out.now) (string_bytes c.put_shape_if.new.out) (string_bytes c.put_shape_if-2.new.out) (string_bytes c.put_shape_if-3.new.out)
    c.one_if.ensures.value c.one_if-2.ensures.value c.shape_of-square.ensures c.shape_of-circle.ensures c.access_outline-point.ensures
    c.in_ok-put_shape_if.ensures c.in_ok-put_shape_if-2.ensures c.in_ok-put_shape_if-3.ensures
