use Rattle.std.proofs.Common.{sym, ◌∙◌}
use Rattle.asm.proofs.WordingLemmas.{visible_utf8}
use Rattle.asm.proofs.unit_text.visible.Goals as goal

pub unreachable-requires : goal.unreachable-requires
unreachable-requires c = c.in-Err.ensures.cases.0 (visible_utf8 c.args.word.now (sym c.are_visible.ensures ∙ c.if-not-are_visible.false))
