use Rattle.std.proofs.Common.{◌≡◌, ◌++◌, ◌∙◌, ap, sym, append_assoc, ℕ, Option}
use Rattle.std.specs.String.{string_bytes}
use Rattle.table_scenario.specs.Programs.{comment_line, message_text, send_call}
use Rattle.table_scenario.proofs.Pieces.{two_pieces}
use Rattle.table_scenario.proofs.programs.push_message.Goals as goal

pub returns : goal.returns
returns c =
    let old = string_bytes c.args.text.now in
    let said : string_bytes c.in_ok-said.said ≡ comment_line c.args.label.now c.args.receiver c.in-Some.order = simp append_assoc c.in_ok-said.ensures.ok in
    let sent : string_bytes c.in_ok-sent.sent ≡ send_call c.args.rank c.args.receiver c.in-Some.order = simp append_assoc c.in_ok-sent.ensures.ok in
    two_pieces old (string_bytes c.push_str.new.self) (string_bytes c.push_str-2.new.self) (comment_line c.args.label.now c.args.receiver c.in-Some.order) (send_call c.args.rank c.args.receiver c.in-Some.order)
    (c.in_ok-push_str.ensures.bytes ∙ ap (λ x. old ++ x) (c.as_str.ensures.value ∙ said))
    (c.in_ok-push_str-2.ensures.bytes ∙ ap (λ x. string_bytes c.push_str.new.self ++ x) (c.as_str-2.ensures.value ∙ sent))
    ∙ ap (λ (o : Option ℕ). old ++ message_text c.args.rank c.args.label.now c.args.receiver o) (sym c.in-Some.is)
