use Rattle.std.proofs.Common.{ℕ, List, ◌∙◌, ◌++◌, ap}
use Rattle.std.specs.String.{string_bytes}
use Rattle.surveys.specs.Lines.{back_text}
use Rattle.surveys.proofs.LineLemmas.{joined_halves}
use Rattle.surveys.proofs.lines.put_line.Goals as goal

pub returns : goal.returns
returns c =
    let f = c.args.finding.now in
    c.in_ok-put_back.ensures ∙ (ap (λ (xs : List ℕ). xs ++ back_text f) c.in_ok-put_front.ensures ∙ joined_halves (string_bytes c.args.out.now) f)
