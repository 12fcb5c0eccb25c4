use Rattle.std.proofs.Common.{◌≡◌, ◌∙◌, List, ℕ, ◌++◌, ap, sym, append_assoc}
use Rattle.std.specs.Prelude.{codes, decimal}
use Rattle.std.specs.String.{string_bytes}
use Rattle.std.proofs.lemmas.Result.{on_ok_weaker}
use Rattle.trial.proofs.RowReasons.{already}
use Rattle.trial.proofs.reasons.put_signed_already.Goals as goal

pub returns-then-has_signed : goal.returns-then-has_signed
returns-then-has_signed c = on_ok_weaker c.write.result
    (λ e. let told : string_bytes c.write.new.self ≡ string_bytes c.args.out.now ++ (codes "general " ++ decimal c.args.general ++ codes " has already signed chain " ++ decimal c.args.index) = simp append_assoc e in
    told ∙ ap (λ (l : List ℕ). string_bytes c.args.out.now ++ l) (sym (already c.args.general c.args.index c.args.signers (sym c.has_signed.ensures ∙ c.if-has_signed.true))))
    c.write.ensures.bytes
