use Rattle.std.proofs.Common.{rules, ◌≡◌, ◌∷◌, ap, sym, ◌∙◌}
use Rattle.std.specs.Prelude.{bytes_eq}
use Rattle.text.specs.Stop.{space}
use Rattle.text.specs.Parts.{pieces}
use Rattle.trace.proofs.MarkLemmas.{round_said}
use Rattle.trace.proofs.access_names.said.Goals as goal

pub returns-then-eq : goal.returns-then-eq
returns-then-eq c =
    let parts : pieces space c.args.line.now ≡ c.piece.result.0.now ∷ pieces space c.in_default-Some.rest.now = search rules in
    round_said (pieces space c.args.line.now) c.piece.result.0.now c.in_default-Some.rest.now parts (ap (bytes_eq c.piece.result.0.now) (sym c.as_slice.ensures) ∙ sym c.if-eq.ensures)
