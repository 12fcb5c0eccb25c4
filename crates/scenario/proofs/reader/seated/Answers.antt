use Rattle.std.proofs.Common.{rules, refl, ◌+◌, slice_set}
use Rattle.std.proofs.lemmas.Result.{err_from_is_err_and}
use Rattle.toml.specs.View.{items_view}
use Rattle.scenario.specs.Reading.{Answers, scenario_of, unseated}
use Rattle.scenario.proofs.Answering.{answers_further, or_refused}
use Rattle.scenario.proofs.reader.seated.Goals as goal

pub returns-in_err-seats : goal.returns-in_err-seats
returns-in_err-seats c =
    let p = err_from_is_err_and c.from_residual.result c.from_residual.ensures.1 in
    rw p.1 (or_refused (Answers (scenario_of c.args.head) c.args.head.generals 0 (unseated c.args.head) (items_view c.args.values.now)) p.0 p.2)

pub loop-index-preserved : goal.loop-index-preserved
loop-index-preserved c = record {
  many = search rules;
  so_far = λ r rest. c.loop-index.invariant.so_far r (answers_further (scenario_of c.args.head) c.head.inside.generals c.loop-index.index (c.loop-index.index + 1) c.loop-index.seats.items (slice_set c.loop-index.seats.items c.from.result c.in_ok-seats-2.field-0) c.args.values.now c.index-values-index.result (c.in_ok-general.general, c.in_ok-general.program) r refl c.loop-index-test.true c.index-values-index.is (search rules) (rw (c.from.ensures, c.in_ok-seats-2.ensures) refl) rest);
}
