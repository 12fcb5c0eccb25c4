use Rattle.std.proofs.Common.{List, ℕ, codes, ◌++◌, ◌∙◌, ap}
use Rattle.std.specs.String.{string_bytes}
use Rattle.show_diagram.specs.Shapes.{text_at, title}
use Rattle.show_diagram.specs.Svg.{campaign_words, description, look}
use Rattle.show_diagram.proofs.HeadLemmas.{four_parts}
use Rattle.show_diagram.proofs.svg.put_head.Goals as goal

pub returns : goal.returns
returns c =
    let s = c.args.scenario.now in
    let words : List ℕ = campaign_words s.generals s.bound s.commander s.order in
    four_parts (string_bytes c.args.out.now) (title words) (description c.args.accesses.now c.args.marks c.args.is_cut) look (text_at (codes "head") 16 28 words)
    (string_bytes c.put_title_of.new.out) (string_bytes c.put_description.new.out) (string_bytes c.push_str.new.self) (string_bytes c.put_headline.new.out)
    c.in_ok-put_title_of.ensures c.in_ok-put_description.ensures (c.in_ok-push_str.ensures.bytes ∙ ap (λ xs. string_bytes c.put_description.new.out ++ xs) c.look.ensures) c.in_ok-put_headline.ensures
