use Rattle.std.proofs.Common.{◌≡◌, ◌++◌, ◌∙◌, ap}
use Rattle.std.specs.String.{string_bytes}
use Rattle.std.proofs.lemmas.Result.{on_ok_weaker}
use Rattle.book.specs.Explained.{bound_line, alike_line}
use Rattle.book.proofs.TextLemmas.{conditions_whole, pushed}
use Rattle.book.proofs.explanation.push_conditions.Goals as goal

pub returns : goal.returns
returns g c =
    let first : string_bytes c.push_str.new.self ≡ string_bytes c.args.lines.now ++ bound_line (g.H.Heard.seen c.args.table.now) c.args.met.now = c.in_ok-push_str.ensures.bytes ∙ ap (λ x. string_bytes c.args.lines.now ++ x) (c.as_str.ensures.value ∙ c.in_ok-bound.ensures) in
    let second : string_bytes c.push_str-2.new.self ≡ string_bytes c.push_str.new.self ++ alike_line c.args.met.now.alike = c.in_ok-push_str-2.ensures.bytes ∙ ap (λ x. string_bytes c.push_str.new.self ++ x) c.alike_line.ensures in
    on_ok_weaker c.push_str-3.result
    (λ e. conditions_whole (g.H.Heard.seen c.args.table.now) c.args.met.now (string_bytes c.args.lines.now) (string_bytes c.push_str.new.self) (string_bytes c.push_str-2.new.self) (string_bytes c.push_str-3.new.self)
    first second (e ∙ ap (λ x. string_bytes c.push_str-2.new.self ++ x) (c.as_str-2.ensures.value ∙ c.in_ok-obedience.ensures)))
    (pushed c.push_str-3.result (string_bytes c.push_str-3.new.self) (string_bytes c.push_str-2.new.self) c.as_str-2.result.now c.push_str-3.ensures.bytes)
