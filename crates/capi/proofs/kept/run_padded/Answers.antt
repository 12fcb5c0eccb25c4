-- The context is the buffer after it was filled.
use Rattle.std.proofs.Common.{◌∙◌, ℕ, List, subst}
use Rattle.std.proofs.lemmas.Result.{IfOk-weaker}
use Rattle.capi.specs.Runs.{Exits}
use Rattle.capi.proofs.kept.run_padded.Goals as goal

pub returns-clause-exits : goal.returns-clause-exits
returns-clause-exits c =
    let same = c.new-context.ensures.same ∙ (c.bytes.ensures.same ∙ c.fill.ensures) in
    IfOk-weaker c.run_again.result _ _ (λ o exits. subst (λ (context : List ℕ). Exits c.args.words.now c.args.verified.now context o.r0 o.steps c.run_again.new.words) same exits) c.run_again.ensures.exits
