use Rattle.std.proofs.Common.{◌≡◌, ◌++◌, take}
use Rattle.std.specs.Prelude.{flat_map}
use Rattle.std.specs.String.{string_bytes}
use Rattle.campaign_orders.specs.Text.{further}
use Rattle.campaign_orders.proofs.printer.put_numbers.Given as goal

abbrev pub invariant-loop-number : goal.invariant-loop-number
invariant-loop-number l = string_bytes l.out ≡ string_bytes l.fn.out ++ flat_map further (take l.number-index l.numbers)
