-- The rows are those of the labels that the general relays.
use Rattle.std.proofs.Common.{map, ap, ◌∙◌}
use Rattle.semantics.specs.Relay.{oral, relayed}
use Rattle.outbox.specs.Rows.{receivers_in, orders_in}
use Rattle.outbox.proofs.Looks.{empty_names, empty_rows}
use Rattle.outbox.proofs.outbox.Outbox.new.Goals as goal

pub invariant_of-result : goal.invariant_of-result
invariant_of-result c = record { within = c.requires; names = ap (map receivers_in) (c.in_ok-new.ensures ∙ c.in_ok-rows_of.ensures) ∙ empty_names c.args.shape (relayed (oral c.args.shape)) }

pub returns-clause-empty : goal.returns-clause-empty
returns-clause-empty c = ap (map orders_in) (c.in_ok-new.ensures ∙ c.in_ok-rows_of.ensures) ∙ empty_rows c.args.shape 0 (relayed (oral c.args.shape))
