-- The number has an order, has none, or is not below 13.
use Rattle.std.proofs.Common.{◌<◌, ◌≤◌, ◌∙◌, sym, length, arith}
use Rattle.outbox.proofs.Masking.{at_some, at_none, at_past}
use Rattle.outbox.proofs.orders_by_number.OrdersByNumber.at.Goals as goal
use Rattle.outbox.proofs.orders_by_number.OrdersByNumber.at.Goals.{else-place-lt13-via-then-place-lt13+else-has_bit, else-place-lt13-via-else-place-lt13}

pub returns-then-has_bit : goal.returns-then-has_bit
returns-then-has_bit c =
    let inside : c.args.place < length c.self.inside.orders = let long = c.self.invariant in omega arith in
    at_some c.self.inside.put c.self.inside.orders c.args.self.now c.args.place c.self.view_is inside (sym c.has_bit.ensures ∙ c.if-has_bit.true)

pub returns-else-place-lt13 : goal.returns-else-place-lt13
returns-else-place-lt13 c =
    elim c.else-place-lt13.branch [
      | else-place-lt13-via-then-place-lt13+else-has_bit w ↦
          let inside : c.args.place < length c.self.inside.orders = (let long = c.self.invariant in let l = w.if-place-lt13.true in omega arith) in
          at_none c.self.inside.put c.self.inside.orders c.args.self.now c.args.place c.self.view_is inside (sym w.has_bit.ensures ∙ w.if-has_bit.false)
      | else-place-lt13-via-else-place-lt13 w ↦
          let past : length c.self.inside.orders ≤ c.args.place = (let long = c.self.invariant in let l = w.if-place-lt13.false in omega arith) in
          at_past c.self.inside.put c.self.inside.orders c.args.self.now c.args.place c.self.view_is past
    ]
