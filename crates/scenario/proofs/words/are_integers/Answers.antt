use Rattle.std.proofs.Common.{refl}
use Rattle.std.proofs.lemmas.Result.{err_from_is_err_and}
use Rattle.toml.specs.View.{view}
use Rattle.scenario.specs.Checks.{is_integer, whole}
use Rattle.scenario.specs.declared.place.ScenarioPlace.TheVariants.{Word}
use Rattle.scenario.proofs.Items.{over_next, over_fails, over_done, fails_on}
use Rattle.scenario.proofs.words.are_integers.Goals as goal

pub returns-in_err-whole : goal.returns-in_err-whole
returns-in_err-whole c =
    let p = err_from_is_err_and c.from_residual.result c.from_residual.ensures.1 in
    rw (p.1, p.2) (over_fails is_integer c.loop-index.index tt c.args.values.now c.index-values-index.result _ c.in_err-whole.field-0.0 c.loop-index-test.true c.index-values-index.is (fails_on c.in_err-whole.field-0.0 (whole (Word c.loop-index.index) (view c.index-values-index.result)) _ c.in_err-whole.ensures) c.loop-index.invariant)

pub loop-index-preserved : goal.loop-index-preserved
loop-index-preserved c = over_next is_integer c.loop-index.index tt tt c.args.values.now c.index-values-index.result _ c.loop-index-test.true c.index-values-index.is (rw c.in_ok-whole.ensures refl) c.loop-index.invariant

pub returns : goal.returns
returns c = over_done is_integer c.loop-index.index tt c.args.values.now _ c.loop-index-test.false c.loop-index.invariant
