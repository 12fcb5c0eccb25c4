use Rattle.std.proofs.Common.{inl, inr}
use Rattle.label.proofs.Absent.{none-listed}
use Rattle.label.proofs.ranking.count.Goals as goal

pub returns-then-size-eq0 : goal.returns-then-size-eq0
returns-then-size-eq0 c = none-listed c.args.space c.args.size c.requires (elim c.then-size-eq0.either [ inl z ↦ inl z | inr more ↦ elim more [ inl l ↦ inr (inl l.1) | inr same ↦ inr (inr same.2) ] ])
