-- The part at the index is replaced, or there is no such index.
use Rattle.std.proofs.Common.{arith, refl}
use Rattle.std.specs.Arc.{arc_value}
use Rattle.campaign_orders.proofs.Sharing.{replaced_here, replaced_nowhere}
use Rattle.campaign_orders.proofs.open_round.replaced.Goals as goal

pub returns : goal.returns
returns c = replaced_nowhere arc_value c.in_ok-copies.copies.items c.args.parts.now c.args.index c.args.part (omega arith) c.in_ok-copies.ensures

pub returns-then-index-len : goal.returns-then-index-len
returns-then-index-len c = replaced_here arc_value c.in_ok-copies.copies.items _ c.args.parts.now c.args.index c.in_ok-copies-2.field-0 c.args.part refl c.in_ok-copies-2.ensures.ok c.in_ok-copies.ensures
