use Rattle.std.proofs.Common.{◌∷◌, ◌∙◌, ap}
use Rattle.trace.proofs.WrittenLemmas.{then_wrote, wrote-same}
use Rattle.trace.proofs.heading.put_rule.Goals as goal

pub returns : goal.returns
returns g c =
    wrote-same _ _ (ap (λ word. 32 ∷ word) (c.as_bytes.ensures.value ∙ c.name.ensures)) (then_wrote c.put_all.ensures c.put_all-2.ensures)
