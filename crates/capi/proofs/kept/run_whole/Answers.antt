-- A context of 4,096 bytes needs no zeros.
use Rattle.std.proofs.Common.{◌∙◌, ℕ, List, sym, subst}
use Rattle.std.proofs.lemmas.Result.{IfOk-weaker}
use Rattle.capi.specs.Runs.{Exits}
use Rattle.capi.proofs.Padding.{whole}
use Rattle.capi.proofs.kept.run_whole.Goals as goal

pub returns-clause-exits : goal.returns-clause-exits
returns-clause-exits c =
    let same = c.new-context.ensures.same ∙ sym (whole c.args.bytes.now c.requires) in
    IfOk-weaker c.run_again.result _ _ (λ o exits. subst (λ (context : List ℕ). Exits c.args.words.now c.args.verified.now context o.r0 o.steps c.run_again.new.words) same exits) c.run_again.ensures.exits
