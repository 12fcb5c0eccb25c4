use Rattle.std.proofs.Common.{◌≡◌, ◌≤◌, take}
use Rattle.std.specs.Prelude.{count_by, ◌==◌}
use Rattle.trace.proofs.refusal.feeds.Given as goal

abbrev pub invariant-loop-byte : goal.invariant-loop-byte
invariant-loop-byte l = record { count : l.count ≡ count_by (λ c. c == 10) (take l.byte-index l.text); bound : l.count ≤ l.byte-index }
