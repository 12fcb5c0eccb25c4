use Rattle.std.proofs.Common.{codes}
use Rattle.std.specs.String.{string_bytes}
use Rattle.show_tree.specs.Svg.{said_if}
use Rattle.show_tree.proofs.LegendLemmas.{four_parts}
use Rattle.show_tree.proofs.svg.put_shape_words.Goals as goal

pub returns : goal.returns
returns c =
    four_parts (string_bytes c.args.out.now) (said_if c.args.marks.circle (codes " Circle: the message of a general who is not named as a traitor, or who sends what he took."))
    (said_if c.args.marks.square (codes " Square: the message of a commander who is named as a traitor.")) (said_if c.args.marks.diamond (codes " Diamond: a lie."))
    (said_if c.args.marks.dashes (codes " Dashes: no order has a majority."))
    (string_bytes c.put_if.new.out) (string_bytes c.put_if-2.new.out) (string_bytes c.put_if-3.new.out) (string_bytes c.put_if-4.new.out)
    c.in_ok-put_if.ensures c.in_ok-put_if-2.ensures c.in_ok-put_if-3.ensures c.in_ok-put_if-4.ensures
