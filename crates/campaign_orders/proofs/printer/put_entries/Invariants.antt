use Rattle.std.proofs.Common.{◌≡◌, ◌++◌, take}
use Rattle.std.specs.Prelude.{flat_map}
use Rattle.std.specs.String.{string_bytes}
use Rattle.campaign_orders.specs.Text.{entry_text}
use Rattle.campaign_orders.proofs.printer.put_entries.Given as goal

abbrev pub invariant-loop-repeat : goal.invariant-loop-repeat
invariant-loop-repeat l = string_bytes l.out ≡ string_bytes l.fn.out ++ flat_map entry_text (take l.repeat-index l.repeats)
