use Rattle.std.proofs.Common.{◌≡◌, ◌∙◌, ◌++◌, ℕ, List, ap, append_assoc, string_bytes}
use Rattle.std.specs.Prelude.{codes, decimal}
use Rattle.std.proofs.lemmas.Result.{IfOk-weaker}
use Rattle.object.specs.ErrorText.{told}
use Rattle.scenario.specs.ReferenceNames.{reference_of}
use Rattle.cli_tasks.proofs.named_files.refused_lines.Goals as goal

pub returns : goal.returns
returns c =
    IfOk-weaker c.format.result _ _ (λ s h.
    (let flat : string_bytes s ≡ codes "refused " ++ told c.args.fault ++ codes "\n" ++ c.sentence-sentence.result.now ++ codes "\n" ++ c.args.name.now ++ codes " is named by traitor[" ++ decimal c.args.index ++ codes "]." ++ c.reference-key.result.now
    = simp append_assoc h in
    flat
    ∙ (ap (λ (key : List ℕ). codes "refused " ++ told c.args.fault ++ codes "\n" ++ c.sentence-sentence.result.now ++ codes "\n" ++ c.args.name.now ++ codes " is named by traitor[" ++ decimal c.args.index ++ codes "]." ++ key) c.reference-key.ensures
    ∙ ap (λ (words : List ℕ). codes "refused " ++ told c.args.fault ++ codes "\n" ++ words ++ codes "\n" ++ c.args.name.now ++ codes " is named by traitor[" ++ decimal c.args.index ++ codes "]." ++ reference_of c.args.key) c.sentence-sentence.ensures)))
    c.format.ensures.ok
