use Rattle.std.proofs.Common.{ℕ, ◌∙◌, List, ap, take}
use Rattle.std.specs.Prelude.{bytes_eq}
use Rattle.surveys.proofs.PartLemmas.{take_min}
use Rattle.surveys.proofs.heading.is_head.Goals as goal

pub returns : goal.returns
returns c =
    c.eq.ensures ∙ (ap (λ (l : List ℕ). bytes_eq l c.as_slice.result.now) (ap (λ (k : ℕ). take k c.args.line.now) c.min.ensures ∙ take_min 13 c.args.line.now)
    ∙ ap (λ (l : List ℕ). bytes_eq (take 13 c.args.line.now) l) c.as_slice.ensures)
