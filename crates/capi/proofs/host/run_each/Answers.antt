-- Each outcome is that of the run in the context with the same index.
use Rattle.std.proofs.Common.{rules, ◌≡◌, ◌∙◌, ◌⊎◌, inl, ℕ, ◌+◌, ◌-◌, ◌*◌, List, Some, ap, subst, arith}
use Rattle.std.specs.Prelude.{take, drop, slice_get}
use Rattle.codec.specs.Program.{SpellsProgram}
use Rattle.capi.specs.Many.{IsOutcome, context_at}
use Rattle.capi.specs.declared.outcome.RunOutcome.{RunOutcome}
use Rattle.capi.proofs.Places.{first_set, each_set, as_was}
use Rattle.capi.proofs.host.run_each.Goals as goal

pub loop-index-init : goal.loop-index-init
loop-index-init c = (search rules, (λ bytes spelt j less. absurd (omega arith)), (λ bytes spelt. as_was (λ j o. IsOutcome bytes (context_at c.args.contexts.now j) o) c.args.outcomes.now))

pub loop-index-preserved : goal.loop-index-preserved
loop-index-preserved c =
    let contexts = c.args.contexts.now in
    let i = c.loop-index.index in
    let o = c.in_ok-outcomes.field-0 in
    let before : List RunOutcome = c.args.outcomes.now in
    let at : c.new-context.result ≡ context_at contexts i = (let long : 4096 * i + 4096 - 4096 * i ≡ 4096 = omega arith in c.new-context.ensures.same ∙ ap (λ (n : ℕ). take n (drop (4096 * i) contexts)) long) in
    let ended : (bytes : List ℕ) → SpellsProgram bytes c.args.verified.now → IsOutcome bytes (context_at contexts i) o =
    (λ bytes spelt. subst (λ (context : List ℕ). IsOutcome bytes context o) at (c.in_ok-outcomes.ensures bytes spelt)) in (
      search rules,
      (λ bytes spelt. first_set (λ (j : ℕ) (x : RunOutcome). IsOutcome bytes (context_at contexts j) x) c.loop-index.outcomes i o (ended bytes spelt) (c.loop-index.invariant.1 bytes spelt)),
      (λ bytes spelt. each_set (λ (j : ℕ) (x : RunOutcome). IsOutcome bytes (context_at contexts j) x ⊎ (slice_get before j ≡ Some x)) c.loop-index.outcomes i o (inl (ended bytes spelt)) (c.loop-index.invariant.2 bytes spelt)),
    )
