use Rattle.std.specs.String.{string_bytes}
use Rattle.show_diagram.proofs.LegendLemmas.{three_strokes}
use Rattle.show_diagram.proofs.legend.put_stroke_meanings.Goals as goal

pub returns : goal.returns
returns c =
    three_strokes c.args.marks c.args.told.now c.args.differs.now c.args.missing.now c.outline_of-circle.result.now c.outline_of-diamond.result.now c.outline_of-cross.result.now
    c.one_if-second.result c.one_if.result (string_bytes c.args.out.now) (string_bytes c.put_meaning_if.new.out) (string_bytes c.put_meaning_if-2.new.out) (string_bytes c.put_meaning_if-3.new.out)
    c.one_if-second.ensures.value c.one_if.ensures.value c.outline_of-circle.ensures c.outline_of-diamond.ensures c.outline_of-cross.ensures
    c.in_ok-put_meaning_if.ensures c.in_ok-put_meaning_if-2.ensures c.in_ok-put_meaning_if-3.ensures
