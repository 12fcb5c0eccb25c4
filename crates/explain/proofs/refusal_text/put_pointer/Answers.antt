use Rattle.std.proofs.Common.{string_bytes}
use Rattle.explain.proofs.AboutLemmas.{on_ok}
use Rattle.explain.proofs.SayingLemmas.{pointer_so}
use Rattle.explain.proofs.refusal_text.put_pointer.Goals as goal

pub returns : goal.returns
returns c =
    on_ok c.put-2.result _ _ (λ h. pointer_so (string_bytes c.args.out.now) _ _ c.helper_name.result.now c.args.helper c.helper_name.ensures c.in_ok-put.ensures h) c.put-2.ensures
