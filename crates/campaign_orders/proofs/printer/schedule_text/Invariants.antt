use Rattle.std.proofs.Common.{◌≡◌, take}
use Rattle.std.specs.String.{string_bytes}
use Rattle.campaign_orders.specs.Text.{schedule_text}
use Rattle.campaign_orders.proofs.printer.schedule_text.Given as goal

abbrev pub invariant-loop-line : goal.invariant-loop-line
invariant-loop-line l = string_bytes l.out ≡ schedule_text (take l.line-index l.schedule)
