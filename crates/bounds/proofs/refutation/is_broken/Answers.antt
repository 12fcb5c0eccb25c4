use Rattle.std.proofs.Common.{◌≡◌, ◌+◌, ◌∷◌, [], ℕ, Bool, sym, ◌∙◌, Some, None, subst, Option}
use Rattle.std.proofs.lemmas.Bool.{true≢false}
use Rattle.combine.specs.Rule.{combined_by}
use Rattle.label.specs.Oral.{om, IsLoyalLieutenant}
use Rattle.bounds.specs.Stories.{is_traitor_in, story_messages, story_order}
use Rattle.bounds.proofs.RefutationLemmas.{AreAlikeSoFar, one_more, one_skipped}
use Rattle.bounds.proofs.StoryTreeLemmas.{story_decides}
use Rattle.bounds.proofs.refutation.is_broken.Goals as goal
use Rattle.bounds.proofs.refutation.is_broken.Goals.{then-general-commander+then-not-is_traitor+in_ok-tree, in_default-2, in_default, else-general-commander, else-general-commander-via-then-general-commander+else-not-is_traitor, else-general-commander-via-else-general-commander}

pub loop-general-preserved : goal.loop-general-preserved
loop-general-preserved c =
    let D : ℕ → ℕ = om (combined_by c.args.rule) c.args.generals (story_messages c.args.story c.args.commander) c.args.bound (c.args.commander ∷ []) in
    let T : ℕ → Bool = is_traitor_in c.args.story c.args.commander in
    let So : Option ℕ → Type 0 = λ expected. AreAlikeSoFar c.args.generals c.args.commander (story_order c.args.story) T D expected (c.loop-general.general + 1) in
    elim c.if-general-commander.branch [
      | then-general-commander+then-not-is_traitor+in_ok-tree w ↦
          let is : IsLoyalLieutenant c.args.generals c.args.commander T c.loop-general.general =
          record { general = c.loop-general-test.true; lieutenant = w.if-general-commander.true; loyal = sym w.is_traitor.ensures ∙ w.if-not-is_traitor.true }
          in
          let e : w.resolve-decision.result ≡ D c.loop-general.general =
          story_decides (combined_by c.args.rule) c.args.story c.args.generals c.args.bound c.args.commander c.loop-general.general w.resolve-decision.result w.in_ok-tree.tree w.in_ok-tree.ensures w.resolve-decision.ensures
          in
          let more : ((u : ℕ) → c.loop-general.expected ≡ Some u → u ≡ w.resolve-decision.result) → So (Some w.resolve-decision.result) =
          one_more c.args.generals c.args.commander (story_order c.args.story) T D c.loop-general.expected c.loop-general.general w.resolve-decision.result c.loop-general.invariant is e
          in
          elim w.match-expected.branch [
            | in_default-2 w' ↦ subst So (sym (w.expected-is ∙ w'.expected-is)) (more (λ u at. some_same (sym at ∙ w'.in-Some.is) ∙ w'.if-order-decision.false))
            | in_default w' ↦ subst So (sym (w.expected-is ∙ w'.expected-is)) (more (λ u at. absurd (some_none (sym at ∙ w'.in_default.is))))
          ]
      | else-general-commander w ↦
          subst So (sym w.expected-is)
          (one_skipped c.args.generals c.args.commander (story_order c.args.story) T D c.loop-general.expected c.loop-general.general c.loop-general.invariant
          (λ own. elim w.else-general-commander.branch [
            | else-general-commander-via-then-general-commander+else-not-is_traitor w' ↦ true≢false (sym w'.if-not-is_traitor.false ∙ (w'.is_traitor.ensures ∙ own.loyal))
            | else-general-commander-via-else-general-commander w' ↦ own.lieutenant w'.if-general-commander.false
          ]))
    ]
  where
    some_same : {u v : ℕ} → Some u ≡ Some v → u ≡ v
    some_same e = cc

    some_none : {u : ℕ} → Some u ≡ None → ⊥
    some_none e = cc
