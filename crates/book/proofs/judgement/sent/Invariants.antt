use Rattle.std.proofs.Common.{◌≡◌, ◌∷◌, [], map}
use Rattle.label.specs.Labels.{others}
use Rattle.book.specs.Table.{told}
use Rattle.book.proofs.judgement.sent.Given as goal

abbrev pub invariant-loop-general : goal.invariant-loop-general
invariant-loop-general g l = l.orders.items ≡ map (told (g.H.Heard.seen l.table).messages ((g.H.Heard.seen l.table).commander ∷ [])) (others l.general ((g.H.Heard.seen l.table).commander ∷ []))
