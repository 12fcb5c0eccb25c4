-- All rows are written.
use Rattle.std.proofs.Common.{◌≡◌, ◌≤◌, refl, length, arith, rules}
use Rattle.semantics.specs.Outbox.{as_taken, taken_value}
use Rattle.outbox.specs.Contents.{entries_of, relay_of}
use Rattle.outbox.proofs.Outcomes.{rows_few, sweep_stands, sweep_written, sweep_counted}
use Rattle.outbox.proofs.outbox.Outbox.honest.Goals as goal

pub put_in_each-requires-clause-few : goal.put_in_each-requires-clause-few
put_in_each-requires-clause-few c = rows_few (relay_of c.self.inside.shape c.self.inside.signing) c.self.inside.rows c.self.invariant

pub put_in_each-requires-clause-callable : goal.put_in_each-requires-clause-callable
put_in_each-requires-clause-callable c =
    let few : length c.self.inside.rows ≤ 990 = rows_few (relay_of c.self.inside.shape c.self.inside.signing) c.self.inside.rows c.self.invariant in
    let long : length c.args.context.now ≡ 4096 = c.requires in
    λ rank within lifetimes pointer same ranges sized unit lives. omega arith

pub invariant_of-self : goal.invariant_of-self
invariant_of-self c =
    sweep_stands (relay_of c.self.inside.shape c.self.inside.signing) (relay_of c.self.inside.shape c.self.inside.signing) c.args.receiver (taken_value c.args.context.now) (length c.self.inside.rows) c.self.inside.rows _ c.self.invariant refl
    (c.put_in_each.ensures.rows (taken_value c.args.context.now) (λ n r p. search rules))

pub returns-clause-rows : goal.returns-clause-rows
returns-clause-rows c =
    sweep_written (as_taken c.args.context.now c.args.receiver) c.args.self.now (relay_of c.self.inside.shape c.self.inside.signing) (entries_of c.self.inside.signing) c.args.receiver (taken_value c.args.context.now) (length c.self.inside.rows) c.self.inside.rows _ (λ k b n. refl) c.self.view_is c.self.invariant refl
    (c.put_in_each.ensures.rows (taken_value c.args.context.now) (λ n r p. search rules))

pub returns-clause-count : goal.returns-clause-count
returns-clause-count c =
    sweep_counted (as_taken c.args.context.now c.args.receiver) c.args.self.now (relay_of c.self.inside.shape c.self.inside.signing) (entries_of c.self.inside.signing) c.args.receiver (taken_value c.args.context.now) (length c.self.inside.rows) c.put_in_each.result c.self.inside.rows (λ k b n. refl) c.self.view_is c.self.invariant refl
    c.put_in_each.ensures.count
