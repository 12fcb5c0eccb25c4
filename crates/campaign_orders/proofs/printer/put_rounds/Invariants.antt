use Rattle.std.proofs.Common.{◌≡◌, ◌+◌, ◌++◌, drop}
use Rattle.std.specs.String.{string_bytes}
use Rattle.campaign_orders.specs.Text.{rounds_text}
use Rattle.campaign_orders.proofs.printer.put_rounds.Given as goal

abbrev pub invariant-loop-before : goal.invariant-loop-before
invariant-loop-before l = string_bytes l.out ++ rounds_text (l.before + 1) (drop l.before l.lines) ≡ string_bytes l.fn.out ++ rounds_text 1 l.lines
