use Rattle.std.proofs.Common.{rules, refl, Some}
use Rattle.std.specs.Prelude.{slice_set}
use Rattle.std.proofs.lemmas.Result.{err_from_is_err_and}
use Rattle.toml.specs.View.{view}
use Rattle.trial.specs.Checks.{set_order, number}
use Rattle.trial.specs.declared.place.SettingPlace.TheVariants.{Order}
use Rattle.trial.proofs.Items.{over_next, over_fails, over_done, fails_on}
use Rattle.trial.proofs.orders.listed.Goals as goal

pub returns-in_err-orders-2-clause-gives : goal.returns-in_err-orders-2-clause-gives
returns-in_err-orders-2-clause-gives c =
    let p = err_from_is_err_and c.from_residual-in_err-orders-2.result c.from_residual-in_err-orders-2.ensures.1 in
    rw (p.1, p.2) (over_fails set_order c.loop-index.index c.loop-index.orders.items c.args.values.now c.index-values-index.result _ c.in_err-orders-2.field-0.0 c.loop-index-test.true c.index-values-index.is (fails_on c.in_err-orders-2.field-0.0 (number (Order c.loop-index.index) 0 4294967295 (Some (view c.index-values-index.result))) _ c.in_err-orders-2.ensures.value) c.loop-index.invariant.rest)

pub loop-index-preserved : goal.loop-index-preserved
loop-index-preserved c = record {
  all = search rules;
  rest = over_next set_order c.loop-index.index c.loop-index.orders.items (slice_set c.loop-index.orders.items c.loop-index.index c.in_ok-orders-2.field-0) c.args.values.now c.index-values-index.result _ c.loop-index-test.true c.index-values-index.is (rw c.in_ok-orders-2.ensures.value refl) c.loop-index.invariant.rest;
}

pub returns-clause-gives : goal.returns-clause-gives
returns-clause-gives c = over_done set_order c.loop-index.index c.loop-index.orders.items c.args.values.now _ c.loop-index-test.false c.loop-index.invariant.rest
