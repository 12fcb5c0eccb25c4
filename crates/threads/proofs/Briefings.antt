-- An oral letter with the context of its round has the relay of its round, and sends what a loyal general must.
use Rattle.std.proofs.Common.{◌≡◌, ℕ, suc, ◌<◌, ◌≤◌, List, length, sym, ap, subst, ◌∙◌, Option, None}
use Rattle.insn.specs.declared.insn.Insn.{Insn}
use Rattle.semantics.specs.Relay.{oral}
use Rattle.round.specs.Scenario.{Scenario, IsScenario, program_of, shape_of}
use Rattle.round.specs.Letters.{Letter}
use Rattle.round.specs.Contexts.{AreWords, context_of, shape_told, rows_told, tells_oral}
use Rattle.round.specs.Runs.{IsRunOf, IsLetter}
use Rattle.round.proofs.Loyal.{letter_is, oral_is_told, shape_is_told}
use Rattle.world.specs.World.{oral_kind}
use Rattle.threads.specs.Holding.{IsBriefed}

module _ (s : Scenario) (before : List (List Letter)) (g : ℕ) (l : Letter) (is : IsScenario s) (lt : g < s.generals) (le : length before ≤ s.bound) (kept : IsLetter l)
    (own : l.general ≡ g) (of_round : l.round ≡ suc (length before)) (has : l.program ≡ program_of s g) (small : AreWords s before g) (told : l.context ≡ context_of s before g) where
  spoken : tells_oral l.context
  spoken = subst (λ (c : List ℕ). tells_oral c) (sym told) (oral_is_told s before g is)

  loyal : program_of s g ≡ None → (l.outbox.rows ≡ oral_kind.rows s before g) × (l.outbox.entries ≡ oral_kind.entries s before g)
  loyal none =
      let run : IsRunOf l None = (let A : Option (List Insn) → Type 0 = λ o. IsRunOf l o in subst A (has ∙ none) kept.run) in
      let shape = kept.shape ∙ (λ i. shape_told (own i) (of_round i) (told i)) in
      let kind = kept.kind spoken in
      let is_oral : l.outbox.relay ≡ oral (shape_told g (suc (length before)) (context_of s before g)) = (λ i. record { shape = shape i; kind = kind i }) in (
        run.2 ∙ ((λ i. rows_told (is_oral i) (told i)) ∙ ap (λ (x : Letter). x.outbox.rows) (letter_is s before g is lt le small)),
        run.4 spoken,
      )

  pub briefed : IsBriefed oral_kind s before g l
  briefed =
      let shape : l.outbox.relay.shape ≡ shape_of s g (suc (length before)) =
      kept.shape ∙ ((λ i. shape_told (own i) (of_round i) (told i)) ∙ shape_is_told s before g (suc (length before)) is) in
      let kind = kept.kind spoken in
      record {
        context = told;
        relay = (λ i. record { shape = shape i; kind = kind i });
        loyal = loyal;
      }
