use Rattle.std.proofs.Common.{◌∙◌, ap}
use Rattle.std.specs.String.{string_bytes}
use Rattle.surveys.specs.Heads.{adversary_word, manner_word, patience_word}
use Rattle.surveys.proofs.LineLemmas.{whole_head}
use Rattle.surveys.proofs.heading.head.Goals as goal

pub returns : goal.returns
returns c =
    whole_head c.args.family.now (string_bytes c.new-out.result) (string_bytes c.put_word.new.out) (string_bytes c.put_front.new.out) (string_bytes c.put_middle.new.out) (string_bytes c.put_end.new.out)
    c.as_str.result.now c.as_str-2.result.now c.as_str-3.result.now c.bound.result c.generals.result c.traitors.result c.commander.result c.orders.result c.grid.result
    c.new-out.ensures.bytes (c.as_str.ensures.value ∙ (c.in_ok-adversary.ensures ∙ ap adversary_word c.adversary.ensures)) (c.as_str-2.ensures.value ∙ (c.in_ok-manner.ensures ∙ ap manner_word c.manner.ensures))
    (c.as_str-3.ensures.value ∙ (c.in_ok-patience.ensures ∙ ap patience_word c.patience.ensures)) c.bound.ensures.same c.generals.ensures.same c.traitors.ensures.same c.commander.ensures c.orders.ensures c.grid.ensures
    c.in_ok-put_word.ensures c.in_ok-put_front.ensures c.in_ok-put_middle.ensures c.in_ok-put_end.ensures
