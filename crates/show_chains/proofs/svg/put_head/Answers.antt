use Rattle.std.proofs.Common.{◌++◌, ◌∙◌, ap}
use Rattle.std.specs.String.{string_bytes}
use Rattle.show_diagram.specs.Shapes.{title}
use Rattle.show_diagram.specs.Svg.{look}
use Rattle.show_diagram.proofs.HeadLemmas.{four_parts}
use Rattle.show_chains.specs.Svg.{description, headline, signed_words}
use Rattle.show_chains.proofs.svg.put_head.Goals as goal

pub returns : goal.returns
returns c =
    let s = c.args.scenario.now in
    four_parts (string_bytes c.args.out.now) (title (signed_words s)) (description c.args.strokes.now c.args.accesses.now c.args.marks c.args.is_cut) look (headline s)
    (string_bytes c.put_title_of.new.out) (string_bytes c.put_description.new.out) (string_bytes c.push_str.new.self) (string_bytes c.put_headline.new.out)
    c.in_ok-put_title_of.ensures c.in_ok-put_description.ensures (c.in_ok-push_str.ensures.bytes ∙ ap (λ xs. string_bytes c.put_description.new.out ++ xs) c.look.ensures) c.in_ok-put_headline.ensures
