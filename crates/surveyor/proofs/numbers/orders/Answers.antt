use Rattle.std.proofs.Common.{ℕ, ◌≤◌, ◌<◌, arith}
use Rattle.surveyor.specs.Numbers.{IsTold}
use Rattle.surveyor.proofs.NumberLemmas.{any_none, orders_are}
use Rattle.surveyor.proofs.numbers.orders.Goals as goal

pub returns-in_err-least-clause-refused : goal.returns-in_err-least-clause-refused
returns-in_err-least-clause-refused c =
    let none : (most : ℕ) → IsTold c.args.word.now 0 most → 1 ≤ most → most < 256 → ⊥ = λ most told some less. c.in_err-least.ensures.refused 0 most told (omega arith) less in
    any_none _ _ none

pub returns-clause-told : goal.returns-clause-told
returns-clause-told c = (orders_are c.args.word.now c.in_ok-least.least c.in_ok-least.most c.from_zero.result c.in_ok-least.ensures.told c.from_zero.ensures).told

pub returns-clause-some : goal.returns-clause-some
returns-clause-some c = (orders_are c.args.word.now c.in_ok-least.least c.in_ok-least.most c.from_zero.result c.in_ok-least.ensures.told c.from_zero.ensures).some

pub returns-clause-refused : goal.returns-clause-refused
returns-clause-refused c = (orders_are c.args.word.now c.in_ok-least.least c.in_ok-least.most c.from_zero.result c.in_ok-least.ensures.told c.from_zero.ensures).none
