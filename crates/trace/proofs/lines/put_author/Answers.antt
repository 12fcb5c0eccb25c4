use Rattle.std.proofs.Common.{[], ◌∷◌, ap, append_assoc}
use Rattle.std.specs.Prelude.{codes, decimal}
use Rattle.trace.specs.Text.{Line, text}
use Rattle.trace.proofs.LineLemmas.{acting_line, loyal_line}
use Rattle.trace.proofs.WrittenLemmas.{then_wrote, wrote-same}
use Rattle.trace.proofs.lines.put_author.Goals as goal

pub returns-in-None : goal.returns-in-None
returns-in-None g c =
    wrote-same _ _ (ap (λ (l : Line). text (l ∷ [])) (loyal_line c.args.general c.args.steps c.in-None.is))
    (wrote-same _ (text ((codes "letter" ∷ decimal c.args.general ∷ codes "loyal" ∷ []) ∷ [])) (simp append_assoc)
    (then_wrote c.put_headed.ensures c.put_all.ensures))

pub returns-in-Some : goal.returns-in-Some
returns-in-Some g c =
    wrote-same _ _ (ap (λ (l : Line). text (l ∷ [])) (acting_line c.args.general c.in-Some.steps c.args.steps c.in-Some.is))
    (wrote-same _ (text ((codes "letter" ∷ decimal c.args.general ∷ codes "steps" ∷ decimal c.in-Some.steps ∷ []) ∷ []))
    (simp append_assoc)
    (then_wrote (then_wrote c.put_headed.ensures c.put_headed-in-Some.ensures) c.put_all-in-Some.ensures))
