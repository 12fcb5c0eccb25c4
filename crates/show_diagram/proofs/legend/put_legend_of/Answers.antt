use Rattle.std.specs.String.{string_bytes}
use Rattle.show_diagram.proofs.LegendLemmas.{whole_legend}
use Rattle.show_diagram.proofs.legend.put_legend_of.Goals as goal

pub returns : goal.returns
returns c =
    whole_legend c.args.marks c.args.told.now c.args.differs.now c.args.missing.now c.args.wide.now c.stroke_rows-place.result c.rows.result
    (string_bytes c.args.out.now) (string_bytes c.put_stroke_meanings.new.out) (string_bytes c.put_shape_meanings.new.out) (string_bytes c.put_words.new.out)
    c.stroke_rows-place.ensures.value c.rows.ensures.value c.in_ok-put_stroke_meanings.ensures c.in_ok-put_shape_meanings.ensures c.in_ok-put_words.ensures
