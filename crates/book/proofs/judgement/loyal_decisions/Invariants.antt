use Rattle.std.proofs.Common.{◌≡◌, ◌∷◌, map}
use Rattle.label.specs.Labels.{others}
use Rattle.book.specs.Decisions.{decision_of}
use Rattle.book.proofs.judgement.loyal_decisions.Given as goal

abbrev pub invariant-loop-general : goal.invariant-loop-general
invariant-loop-general g l = l.decisions.items ≡ map (decision_of (g.H.Heard.seen l.table)) (others l.general ((g.H.Heard.seen l.table).commander ∷ l.traitors))
