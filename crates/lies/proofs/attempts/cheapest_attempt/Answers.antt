use Rattle.std.proofs.Common.{ℕ, ◌≡◌, ◌+◌, ◌∷◌, [], ◌++◌, List, length, take, get_or, sym, ap, subst, ◌∙◌, arith, Option, None, Some}
use Rattle.std.specs.Prelude.{IfSome}
use Rattle.std.proofs.lemmas.List.{take_more}
use Rattle.label.specs.Labels.{on, others}
use Rattle.lies.specs.Attempts.{IsIn, NoneCheaper, Succeeds, attempts, plan_for}
use Rattle.lies.specs.Plans.{attacks, items_of, plan}
use Rattle.lies.specs.declared.attempt.Attempt.{Attempt}
use Rattle.lies.specs.declared.attempt.Success.{Success}
use Rattle.lies.specs.declared.sender.Sender.TheVariants.{Loyal}
use Rattle.lies.proofs.CodeLemmas.{off_few}
use Rattle.lies.proofs.Members.{in_get}
use Rattle.lies.proofs.SetLemmas.{one_better, one_failed, one_kept}
use Rattle.lies.proofs.attempts.cheapest_attempt.Goals as goal
use Rattle.lies.proofs.attempts.cheapest_attempt.Goals.{in-Some+then-is_cheaper, in-Some+else-is_cheaper, in_default}

abbrev nothing : Attempt
nothing = record { sender = Loyal 0; aims = record { first = None; second = None } }

pub plan-found-requires-clause-few : goal.plan-found-requires-clause-few
plan-found-requires-clause-few g c =
    let few = off_few c.args.generals c.args.commander c.requires.present c.requires.few in
    let so : length c.as_slice.result.now ≡ length (others c.args.generals (c.args.commander ∷ [])) = ap length (c.as_slice.ensures.value ∙ c.others-off.ensures) in
    omega arith

pub loop-attempt-preserved : goal.loop-attempt-preserved
loop-attempt-preserved g c =
    let f : List ℕ → ℕ = g.C.Combine.combined c.args.rule.now in
    let all : List Attempt = c.deref-attempt-items.result.now in
    let i : ℕ = c.loop-attempt.attempt-index in
    let x : Attempt = get_or c.deref-attempt-items.result.now c.loop-attempt.attempt-index nothing in
    let N : List Attempt → Option Success → Type 0 = NoneCheaper (g.C.Combine.combined c.args.rule.now) c.args.generals c.args.bound c.args.commander c.args.traitors.now in
    let S : Option Success → Type 0 = λ o. IfSome o (Succeeds (g.C.Combine.combined c.args.rule.now) c.args.generals c.args.bound c.args.commander c.args.traitors.now) in
    let tried : List Attempt = take c.loop-attempt.attempt-index c.deref-attempt-items.result.now in
    let more : take (c.loop-attempt.attempt-index + 1) c.deref-attempt-items.result.now ≡ tried ++ x ∷ [] = take_more c.deref-attempt-items.result.now c.loop-attempt.attempt-index nothing c.loop-attempt-test.true in
    let planned : plan_for f c.args.generals c.args.bound c.args.commander c.args.traitors.now x ≡ items_of c.plan-found.result =
    sym (c.plan-found.ensures.plan ∙ ap (λ (gs : List ℕ). plan (g.C.Combine.combined c.args.rule.now) (on c.args.traitors.now) c.args.bound gs x.sender x.aims) (c.as_slice.ensures.value ∙ c.others-off.ensures))
    in
    elim c.match-found.branch [
      | in-Some+then-is_cheaper w ↦
          let there : plan_for f c.args.generals c.args.bound c.args.commander c.args.traitors.now x ≡ Some w.in-Some.plan.items = planned ∙ ap items_of w.in-Some.is in
          let cost : w.total-attacks.result ≡ attacks w.in-Some.plan.items = w.total-attacks.ensures.value ∙ ap attacks w.as_slice-in-Some.ensures.value in
          let one : IsIn x (attempts c.args.generals c.args.commander c.args.traitors.now) =
          subst (IsIn x) (c.deref-attempt-items.ensures.value ∙ c.in_ok-attempts.ensures) (in_get c.deref-attempt-items.result.now c.loop-attempt.attempt-index nothing c.loop-attempt-test.true)
          in
          let s : Success = record { attempt = x; attacks = w.total-attacks.result } in
          let is : Succeeds f c.args.generals c.args.bound c.args.commander c.args.traitors.now s = record { one = one; choices = w.in-Some.plan.items; planned = there; counted = sym cost } in
          record {
            success = subst S (sym w.best-is) is;
            least = subst (N (take (c.loop-attempt.attempt-index + 1) c.deref-attempt-items.result.now)) (sym w.best-is)
                (subst (λ (as' : List Attempt). N as' (Some s)) (sym more)
                (one_better f c.args.generals c.args.bound c.args.commander c.args.traitors.now tried x c.loop-attempt.best w.in-Some.plan.items w.total-attacks.result w.is_cheaper.result c.loop-attempt.invariant.least there w.is_cheaper.ensures.some w.if-is_cheaper.true cost));
          }
      | in-Some+else-is_cheaper w ↦
          let there : plan_for f c.args.generals c.args.bound c.args.commander c.args.traitors.now x ≡ Some w.in-Some.plan.items = planned ∙ ap items_of w.in-Some.is in
          let cost : w.total-attacks.result ≡ attacks w.in-Some.plan.items = w.total-attacks.ensures.value ∙ ap attacks w.as_slice-in-Some.ensures.value in
          record {
            success = subst S (sym w.best-is) c.loop-attempt.invariant.success;
            least = subst (N (take (c.loop-attempt.attempt-index + 1) c.deref-attempt-items.result.now)) (sym w.best-is)
                (subst (λ (as' : List Attempt). N as' c.loop-attempt.best) (sym more)
                (one_kept f c.args.generals c.args.bound c.args.commander c.args.traitors.now tried x c.loop-attempt.best w.in-Some.plan.items w.total-attacks.result w.is_cheaper.result c.loop-attempt.invariant.least there w.is_cheaper.ensures.none w.is_cheaper.ensures.some w.if-is_cheaper.false cost));
          }
      | in_default w ↦ record {
        success = subst S (sym w.best-is) c.loop-attempt.invariant.success;
        least = subst (N (take (c.loop-attempt.attempt-index + 1) c.deref-attempt-items.result.now)) (sym w.best-is)
            (subst (λ (as' : List Attempt). N as' c.loop-attempt.best) (sym more)
            (one_failed f c.args.generals c.args.bound c.args.commander c.args.traitors.now tried x c.loop-attempt.best c.loop-attempt.invariant.least (planned ∙ ap items_of w.in_default.is)));
      }
    ]
