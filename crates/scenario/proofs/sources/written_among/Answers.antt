use Rattle.std.proofs.Common.{◌∙◌, sym}
use Rattle.toml.specs.View.{table_view}
use Rattle.scenario.proofs.SourceLemmas.{among_done, among_found, among_next}
use Rattle.scenario.proofs.sources.written_among.Goals as goal

pub returns-in-Some : goal.returns-in-Some
returns-in-Some c =
    c.written_in.ensures
    ∙ among_found c.args.general c.loop-index.index c.args.values.now c.index-values-index.result (table_view c.in-Some.table.now) _ c.loop-index-test.true c.index-values-index.is (sym c.in-Some.ensures) c.loop-index.invariant

pub loop-index-preserved : goal.loop-index-preserved
loop-index-preserved c = among_next c.args.general c.loop-index.index c.args.values.now c.index-values-index.result _ c.loop-index-test.true c.index-values-index.is (sym c.in_default.ensures) c.loop-index.invariant

pub returns : goal.returns
returns c = among_done c.args.general c.loop-index.index c.args.values.now _ c.loop-index-test.false c.loop-index.invariant
