use Rattle.std.proofs.Common.{◌≡◌, ◌++◌, ◌∙◌, ap, append_assoc, codes}
use Rattle.std.specs.String.{string_bytes}
use Rattle.table_scenario.specs.Programs.{rounds_text, traitor_head}
use Rattle.table_scenario.proofs.Pieces.{three_pieces}
use Rattle.table_scenario.proofs.programs.push_traitor.Goals as goal

pub returns : goal.returns
returns g c =
    let t = g.H.Heard.seen c.args.table.now in
    let head : string_bytes c.in_ok-head.head ≡ traitor_head c.args.general = simp append_assoc c.in_ok-head.ensures.ok in
    three_pieces (string_bytes c.args.text.now) (string_bytes c.push_str.new.self) (string_bytes c.push_rounds.new.text) (string_bytes c.push_str-2.new.self) (traitor_head c.args.general) (rounds_text t c.args.general) (codes "mov r0, 0\nexit\n\"\"\"\n")
    (c.in_ok-push_str.ensures.bytes ∙ ap (λ x. string_bytes c.args.text.now ++ x) (c.as_str.ensures.value ∙ head))
    c.in_ok-push_rounds.ensures
    c.in_ok-push_str-2.ensures.bytes
