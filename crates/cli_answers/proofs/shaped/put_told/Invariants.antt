use Rattle.std.proofs.Common.{◌≡◌, drop, map}
use Rattle.serde_json.specs.View.{members_view}
use Rattle.text.specs.Parts.{left, pieces}
use Rattle.text.specs.Stop.{space}
use Rattle.cli_answers.specs.Shaped.{told_by}
use Rattle.cli_answers.proofs.shaped.put_told.Given as goal

abbrev pub invariant-loop-kind : goal.invariant-loop-kind
invariant-loop-kind l =
    told_by (map (λ p. (p.0.now, p.1.now)) (drop l.kind-index l.parts)) (left space l.rest) (members_view l.object.entries)
    ≡ told_by (map (λ p. (p.0.now, p.1.now)) l.parts) (pieces space l.line) (members_view l.fn.object.entries)
