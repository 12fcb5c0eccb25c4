use Rattle.std.proofs.Common.{◌≡◌, ◌++◌, ◌∙◌, ap, append_assoc}
use Rattle.std.specs.String.{string_bytes}
use Rattle.label.specs.Relay.{relay}
use Rattle.table_scenario.specs.Programs.{after_line, jump_line, relayed_text, shape_of}
use Rattle.table_scenario.proofs.Pieces.{three_pieces}
use Rattle.table_scenario.proofs.programs.push_round.Goals as goal

pub returns : goal.returns
returns g c =
    let t = g.H.Heard.seen c.args.table.now in
    let head : string_bytes c.in_ok-head.head ≡ jump_line c.args.round = simp append_assoc c.in_ok-head.ensures.ok in
    let tail : string_bytes c.in_ok-tail.tail ≡ after_line c.args.round = simp append_assoc c.in_ok-tail.ensures.ok in
    three_pieces (string_bytes c.args.text.now) (string_bytes c.push_str.new.self) (string_bytes c.push_relayed.new.text) (string_bytes c.push_str-2.new.self) (jump_line c.args.round) (relayed_text t c.args.general (relay (shape_of t c.args.general c.args.round))) (after_line c.args.round)
    (c.in_ok-push_str.ensures.bytes ∙ ap (λ x. string_bytes c.args.text.now ++ x) (c.as_str.ensures.value ∙ head))
    c.in_ok-push_relayed.ensures
    (c.in_ok-push_str-2.ensures.bytes ∙ ap (λ x. string_bytes c.push_relayed.new.text ++ x) (c.as_str-2.ensures.value ∙ tail))
