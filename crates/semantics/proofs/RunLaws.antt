-- Laws of runs.
use Rattle.std.proofs.Common.{◌≡◌, ℕ, zero, suc, ◌+◌, List, [], ◌∷◌, Bool, true, false, cond, refl, ap, ◌∙◌, arith}
use Rattle.insn.specs.declared.insn.Insn.{Insn}
use Rattle.semantics.specs.Relay.{Relay}
use Rattle.semantics.specs.declared.request.Request.{Request}
use Rattle.semantics.specs.State.{State, Outcome, Next, Ask, Exit, Trap}
use Rattle.semantics.specs.Call.{fits, resumed}
use Rattle.semantics.specs.Execution.{step}
use Rattle.semantics.specs.Run.{Progress, Waiting, IsFinal, followed, onwards}

module _ (program : List Insn) (context : List ℕ) (relay : Relay) where
  rest_of : ℕ → List (List ℕ) → State → Progress
  rest_of k answers s = onwards program context relay k answers s

  followed_stays : (k j : ℕ) (ih : (answers : List (List ℕ)) (s : State) → IsFinal (onwards program context relay k answers s) →
      onwards program context relay (k + j) answers s ≡ onwards program context relay k answers s)
      (answers : List (List ℕ)) (o : Outcome) → IsFinal (followed (λ more next. onwards program context relay k more next) answers o) →
      followed (λ more next. onwards program context relay (k + j) more next) answers o ≡ followed (λ more next. onwards program context relay k more next) answers o
  followed_stays k j ih answers (Next s) final = ih answers s final
  followed_stays k j ih [] (Ask request s) final = refl
  followed_stays k j ih (answer ∷ answers) (Ask request s) final = by_fit (fits request answer) final
    where
      by_fit : (b : Bool) → IsFinal (cond b (onwards program context relay k answers (resumed request answer s)) (Waiting request s)) →
          cond b (onwards program context relay (k + j) answers (resumed request answer s)) (Waiting request s)
          ≡ cond b (onwards program context relay k answers (resumed request answer s)) (Waiting request s)
      by_fit true final = ih answers (resumed request answer s) final
      by_fit false final = refl
  followed_stays k j ih answers (Exit r0 s) final = refl
  followed_stays k j ih answers (Trap cause) final = refl

  -- A run that has exited, trapped or waits does not change with further steps.
  pub stays : (k j : ℕ) (answers : List (List ℕ)) (s : State) → IsFinal (onwards program context relay k answers s) →
      onwards program context relay (k + j) answers s ≡ onwards program context relay k answers s
  unfolding onwards
  stays zero j answers s final = absurd final
  stays (suc k) j answers s final =
      let e : suc k + j ≡ suc (k + j) = omega arith in
      ap (λ (n : ℕ). onwards program context relay n answers s) e
      ∙ followed_stays k j (λ more next f. stays k j more next f) answers (step program context relay s) final

  -- An answer that fits its request resumes the run.
  pub answered : (k : ℕ) (answers : List (List ℕ)) (s : State) (request : Request) (waiting : State) (answer : List ℕ) →
      step program context relay s ≡ Ask request waiting → fits request answer ≡ true →
      onwards program context relay (suc k) (answer ∷ answers) s ≡ onwards program context relay k answers (resumed request answer waiting)
  unfolding onwards
  answered k answers s request waiting answer e f =
      ap (λ (o : Outcome). followed (λ more next. onwards program context relay k more next) (answer ∷ answers) o) e
      ∙ ap (λ (b : Bool). cond b (onwards program context relay k answers (resumed request answer waiting)) (Waiting request waiting)) f
