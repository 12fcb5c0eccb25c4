use Rattle.std.proofs.Common.{◌∙◌, List, ℕ, ◌++◌, ap, sym}
use Rattle.std.specs.String.{string_bytes}
use Rattle.std.proofs.lemmas.Result.{on_ok_weaker}
use Rattle.trial.proofs.RowReasons.{other_reason}
use Rattle.trial.proofs.reasons.put_signed_reason.Goals as goal

pub returns-in_default : goal.returns-in_default
returns-in_default c = on_ok_weaker c.put_are_signed.result
    (λ e. e ∙ ap (λ (l : List ℕ). string_bytes c.args.out.now ++ l) (sym (other_reason c.args.shape c.args.held.now c.args.call.first c.args.call.helper c.in_default.not-SignOrder c.in_default.not-PassOn)))
    c.put_are_signed.ensures
