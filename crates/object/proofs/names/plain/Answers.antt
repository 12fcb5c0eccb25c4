use Rattle.std.proofs.Common.{sym, ◌∙◌}
use Rattle.object.proofs.NameLemmas.{plain_utf8}
use Rattle.object.proofs.names.plain.Goals as goal

pub unreachable-requires : goal.unreachable-requires
unreachable-requires c = c.in-Err.ensures.cases.0 (plain_utf8 c.args.name.now (sym c.is_plain.ensures ∙ c.if-not-is_plain.false))
