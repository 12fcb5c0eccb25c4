use Rattle.serde_json.specs.View.{members_view}
use Rattle.cli_answers.proofs.ValueLemmas.{all_fit}
use Rattle.cli_answers.proofs.shaped.put_told.Goals as goal

pub returns : goal.returns
returns c =
    all_fit (λ p. (p.0.now, p.1.now)) c.loop-kind.kind-index c.args.parts.now c.loop-kind.rest c.is_none.result (members_view c.loop-kind.object.entries) _
    c.loop-kind-test.false c.is_none.ensures c.loop-kind.invariant
