use Rattle.std.specs.String.{string_bytes}
use Rattle.show_tree.proofs.LegendLemmas.{four_meanings}
use Rattle.show_tree.proofs.legend.put_meanings.Goals as goal

pub returns : goal.returns
returns c =
    four_meanings c.args.marks c.args.dashed c.args.place c.one_if.result c.one_if-2.result c.one_if-3.result (string_bytes c.args.out.now) (string_bytes c.put_shape_if.new.out)
    (string_bytes c.put_shape_if-2.new.out) (string_bytes c.put_shape_if-3.new.out) (string_bytes c.put_meaning_if.new.out)
    c.one_if.ensures.value c.one_if-2.ensures.value c.one_if-3.ensures.value
    c.in_ok-put_shape_if.ensures c.in_ok-put_shape_if-2.ensures c.in_ok-put_shape_if-3.ensures c.in_ok-put_meaning_if.ensures
