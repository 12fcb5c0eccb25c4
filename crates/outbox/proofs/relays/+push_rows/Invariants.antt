use Rattle.std.proofs.Common.{◌≡◌, ◌-◌, ◌++◌, take}
use Rattle.std.specs.Prelude.{flat_map}
use Rattle.outbox.specs.Receivers.{rows_under, struck}
use Rattle.outbox.proofs.relays.+push_rows.Given as goal

abbrev pub decreases-push_rows : goal.decreases-push_rows
decreases-push_rows l = l.more

abbrev pub invariant-loop-general : goal.invariant-loop-general
invariant-loop-general l = l.rows.items ≡ l.fn.rows.items ++ flat_map (λ j. rows_under (l.more - 1) (struck j l.hearing)) (take l.general-index l.hearing)
