use Rattle.std.proofs.Common.{arith}
use Rattle.resolve.proofs.Decisions.{first-place}
use Rattle.book.proofs.tree_table.place.Goals as goal

pub returns-then-commander-general : goal.returns-then-commander-general
returns-then-commander-general c = first-place c.args.commander c.args.general c.from.result (λ l. c.from.ensures) (λ l. absurd (let h = c.if-commander-general.true in omega arith))

pub returns-else-commander-general : goal.returns-else-commander-general
returns-else-commander-general c = first-place c.args.commander c.args.general c.from-else-commander-general.result (λ l. absurd (let h = c.if-commander-general.false in omega arith)) (λ l. c.from-else-commander-general.ensures)
