use Rattle.std.proofs.Common.{rules, refl}
use Rattle.std.specs.Prelude.{slice_set}
use Rattle.std.proofs.lemmas.Result.{err_from_is_err_and}
use Rattle.toml.specs.View.{view}
use Rattle.trial.specs.Checks.{set_word, word}
use Rattle.trial.specs.declared.place.SettingPlace.TheVariants.{Word}
use Rattle.trial.proofs.Items.{over_next, over_fails, over_done, fails_on}
use Rattle.trial.proofs.words.listed.Goals as goal

pub returns-in_err-words-clause-gives : goal.returns-in_err-words-clause-gives
returns-in_err-words-clause-gives c =
    let p = err_from_is_err_and c.from_residual.result c.from_residual.ensures.1 in
    rw (p.1, p.2) (over_fails set_word c.loop-index.index c.loop-index.words c.args.values.now c.index-values-index.result _ c.in_err-words.field-0.0 c.loop-index-test.true c.index-values-index.is (fails_on c.in_err-words.field-0.0 (word (Word c.loop-index.index) (view c.index-values-index.result)) _ c.in_err-words.ensures.value) c.loop-index.invariant.rest)

pub loop-index-preserved : goal.loop-index-preserved
loop-index-preserved c = record {
  all = search rules;
  rest = over_next set_word c.loop-index.index c.loop-index.words (slice_set c.loop-index.words c.loop-index.index c.in_ok-words.field-0) c.args.values.now c.index-values-index.result _ c.loop-index-test.true c.index-values-index.is (rw c.in_ok-words.ensures.value refl) c.loop-index.invariant.rest;
}

pub returns-clause-gives : goal.returns-clause-gives
returns-clause-gives c = over_done set_word c.loop-index.index c.loop-index.words c.args.values.now _ c.loop-index-test.false c.loop-index.invariant.rest
