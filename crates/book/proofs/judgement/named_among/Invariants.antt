use Rattle.std.proofs.Common.{◌≡◌, ◌≤◌, count_by}
use Rattle.label.specs.Labels.{on, generals}
use Rattle.book.proofs.judgement.named_among.Given as goal

abbrev pub invariant-loop-general : goal.invariant-loop-general
invariant-loop-general l = record { count : l.named ≡ count_by (on l.traitors) (generals l.general); few : l.named ≤ l.general }
