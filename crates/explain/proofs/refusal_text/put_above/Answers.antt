use Rattle.std.proofs.Common.{string_bytes}
use Rattle.explain.proofs.AboutLemmas.{on_ok}
use Rattle.explain.proofs.SayingLemmas.{above_so}
use Rattle.explain.proofs.refusal_text.put_above.Goals as goal

pub returns : goal.returns
returns c =
    on_ok c.put_between.result _ _ (λ h. above_so (string_bytes c.args.out.now) _ _ c.helper_name.result.now c.args.helper c.args.most c.helper_name.ensures c.in_ok-put.ensures h) c.put_between.ensures
