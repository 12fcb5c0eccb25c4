use Rattle.rule_program.proofs.BinaryLemmas.{HasDigits}
use Rattle.rule_program.proofs.orders.orders_of.Given as goal

abbrev pub invariant-loop-place : goal.invariant-loop-place
invariant-loop-place l = HasDigits l.number l.size l.place l.orders.items
