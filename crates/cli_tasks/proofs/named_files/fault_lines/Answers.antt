use Rattle.std.proofs.Common.{◌≡◌, ◌∙◌, ◌++◌, ℕ, List, ap, append_assoc, string_bytes}
use Rattle.std.specs.Prelude.{codes, decimal}
use Rattle.std.proofs.lemmas.Result.{IfOk-weaker}
use Rattle.cli_tasks.proofs.named_files.fault_lines.Goals as goal

pub returns : goal.returns
returns c =
    IfOk-weaker c.format.result _ _ (λ s h.
    (let flat : string_bytes s ≡ codes "fault " ++ c.args.fault.now ++ codes " " ++ c.args.name.now ++ codes "\nit is named by traitor[" ++ decimal c.args.index ++ codes "]." ++ c.reference-key.result.now
    = simp append_assoc h in
    flat ∙ ap (λ (key : List ℕ). codes "fault " ++ c.args.fault.now ++ codes " " ++ c.args.name.now ++ codes "\nit is named by traitor[" ++ decimal c.args.index ++ codes "]." ++ key) c.reference-key.ensures))
    c.format.ensures.ok
