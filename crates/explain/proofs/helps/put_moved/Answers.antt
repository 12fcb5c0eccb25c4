use Rattle.std.proofs.Common.{string_bytes}
use Rattle.std.specs.Prelude.{codes}
use Rattle.explain.specs.Helps.{mask_text, sum_text}
use Rattle.explain.proofs.AboutLemmas.{on_ok}
use Rattle.explain.proofs.SayingLemmas.{three_parts}
use Rattle.explain.proofs.helps.put_moved.Goals as goal

pub returns : goal.returns
returns c =
    on_ok c.put.result _ _ (λ h. three_parts (string_bytes c.args.out.now) _ _ _ (mask_text c.args.mask c.args.number) (sum_text c.args.number c.args.pointer) (codes " in place of")
    c.in_ok-put_mask.ensures c.in_ok-put_sum.ensures h) c.put.ensures
