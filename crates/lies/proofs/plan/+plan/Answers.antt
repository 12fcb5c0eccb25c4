use Rattle.std.proofs.Common.{ℕ, ◌≡◌, ◌+◌, ◌-◌, ◌≤◌, ◌<◌, Bool, cond, List, [], ◌∷◌, ◌++◌, Option, None, Some, length, take, sym, ap, subst, ◌∙◌, arith, add-one, append_assoc}
use Rattle.std.specs.Prelude.{flat_map, slice_index_or}
use Rattle.std.proofs.lemmas.Bool.{cond-false}
use Rattle.std.proofs.lemmas.List.{append-nil}
use Rattle.std.proofs.lemmas.List.Elements.{All-push}
use Rattle.label.specs.Labels.{on}
use Rattle.lies.specs.Limits.{AreCheap, most_attacks}
use Rattle.lies.specs.Plans.{attacks, attacks_by, choices_of, chosen, items_of, may_cast, next_aims, plan, sender_of, without}
use Rattle.lies.specs.declared.choice.Choice.{Choice}
use Rattle.lies.specs.declared.choice.Vote.{Vote}
use Rattle.lies.proofs.CodeLemmas.{flat_more, plan_found, vote_adds, vote_fails, votes_many, without_few}
use Rattle.lies.proofs.LimitLemmas.{most_small}
use Rattle.lies.proofs.plan.+plan.Goals as goal
use Rattle.lies.proofs.plan.+plan.Goals.{push_choices-then-may_cast+in-Some, push_choices-then-may_cast+in_default, push_choices-else-may_cast}

pub plan-returns-then-relays-eq0-clause-plan : goal.plan-returns-then-relays-eq0-clause-plan
unfolding plan
plan-returns-then-relays-eq0-clause-plan g t c = rw c.if-relays-eq0.true c.last_plan.ensures.plan

pub push_choices-plan-requires : goal.push_choices-plan-requires
push_choices-plan-requires g t c κs within =
    let few = without_few c.args.off.now c.args.general in
    let so : length c.as_slice.result.now ≡ length (without c.args.off.now c.args.general) = ap length (c.as_slice.ensures.value ∙ c.without-rest.ensures) in
    let most = c.requires.few in
    let short = c.requires.short in
    (let h = c.decreases in omega arith, (within, (omega arith, omega arith)))

pub push_choices-overflow_add-attacks : goal.push_choices-overflow_add-attacks
push_choices-overflow_add-attacks g t c =
    let one = c.attacks.ensures.few in
    let rest = c.total.ensures.few in
    let small = most_small c.args.relays (let short = c.requires.short in omega arith) in
    omega arith

pub plan-loop-general-preserved : goal.plan-loop-general-preserved
plan-loop-general-preserved g t c =
    let F : ℕ → List Choice = λ j. choices_of (λ s a. plan (g.C.Combine.combined c.args.rule.now) (on c.args.traitors.now) (c.args.relays - 1) (without c.args.off.now j) s a) c.args.sender (on c.args.traitors.now) c.args.aims.now j in
    let ne = c.if-relays-eq0.false in
    let e : c.args.relays - 1 + 1 ≡ c.args.relays = omega arith in
    let long = c.push_choices.ensures.long in
    let short = c.loop-general.invariant.short in
    record {
      items =
          c.push_choices.ensures.pushed
          ∙ (ap (λ ys. ys ++ F (slice_index_or c.args.off.now c.loop-general.general-index 0)) c.loop-general.invariant.items ∙ sym (flat_more F c.args.off.now c.loop-general.general-index 0 c.loop-general-test.true));
      short = omega arith;
      cheap = subst (λ (k : ℕ). AreCheap k c.push_choices.new.choices.items) e (c.push_choices.ensures.cheap (subst (λ (k : ℕ). AreCheap k c.loop-general.choices.items) (sym e) c.loop-general.invariant.cheap));
    }

pub plan-returns-clause-plan : goal.plan-returns-clause-plan
plan-returns-clause-plan g t c =
    let ne = c.if-relays-eq0.false in
    let test = c.loop-general-test.false in
    c.cheapest.ensures.plan
    ∙ plan_found (g.C.Combine.combined c.args.rule.now) (on c.args.traitors.now) c.args.relays (c.args.relays - 1) c.args.off.now c.args.sender c.args.aims.now c.new-begun.result.items c.as_slice.result.now c.loop-general.general-index
    (omega arith) c.new-begun.ensures (c.as_slice.ensures.value ∙ c.loop-general.invariant.items) (omega arith)

abbrev no_vote : Vote
no_vote = record { taken = 0; first = 0; second = 0 }

pub push_choices-loop-vote-preserved : goal.push_choices-loop-vote-preserved
push_choices-loop-vote-preserved g t c =
    let f : List ℕ → ℕ = g.C.Combine.combined c.args.rule.now in
    let T : ℕ → Bool = on c.args.traitors.now in
    let votes : List Vote = c.all_votes-votes.result in
    let x : Vote = slice_index_or c.all_votes-votes.result c.loop-vote.vote-index no_vote in
    let Below : Vote → Option (List Choice) = λ vote. plan (g.C.Combine.combined c.args.rule.now) (on c.args.traitors.now) c.args.relays (without c.args.off.now c.args.general) (sender_of (on c.args.traitors.now) c.args.general vote.taken) (next_aims c.args.aims.now c.args.general vote) in
    let G : Vote → List Choice = λ vote. cond (may_cast c.args.sender (on c.args.traitors.now) c.args.aims.now c.args.general vote) (chosen c.args.sender c.args.general vote (Below vote)) [] in
    let old : List Choice = c.args.choices.now.items in
    let eight : length c.all_votes-votes.result ≡ 8 = ap length c.all_votes-votes.ensures ∙ votes_many in
    let test = c.loop-vote-test.true in
    let within : c.loop-vote.vote-index < length c.all_votes-votes.result = omega arith in
    let so_far : List Choice = flat_map G (take c.loop-vote.vote-index votes) in
    let more : flat_map G (take (c.loop-vote.vote-index + 1) votes) ≡ so_far ++ G x = flat_more G votes c.loop-vote.vote-index no_vote within in
    let short = c.loop-vote.invariant.short in
    elim c.if-may_cast.branch [
      | push_choices-then-may_cast+in-Some w ↦
          let plans : Below x ≡ Some w.in-Some.below.items =
          sym (λ d. plan (g.C.Combine.combined c.args.rule.now) (on c.args.traitors.now) c.args.relays ((w.as_slice.ensures.value ∙ c.without-rest.ensures) d) (w.of-next.ensures (on c.args.traitors.now) c.args.general (sym w.is_among.ensures) d) (w.next_aims-aims.ensures d))
          ∙ (sym w.plan.ensures.plan ∙ ap items_of w.in-Some.is)
          in
          let cost : w.attacks.result + w.total.result ≡ attacks_by c.args.sender x.taken + attacks w.in-Some.below.items =
          (λ d. w.attacks.ensures.value d + (w.total.ensures.value ∙ ap attacks w.as_slice-in-Some.ensures.value) d)
          in
          let adds : G x ≡ record { general = c.args.general; vote = x; attacks = w.attacks.result + w.total.result } ∷ [] =
          vote_adds c.args.sender (on c.args.traitors.now) c.args.aims.now c.args.general x (Below x) w.in-Some.below.items (w.attacks.result + w.total.result) (sym c.may_cast.ensures ∙ w.if-may_cast.true) plans cost
          in
          let long = w.push.ensures.len in
          let same : length c.if-may_cast.choices.items ≡ length w.push.new.self.items = ap (λ v. length v.items) w.choices-is in
          let one = w.attacks.ensures.few in
          let rest = w.total.ensures.few in
          record {
            items =
                ap (λ v. v.items) w.choices-is
                ∙ (w.push.ensures.items
                ∙ ((λ d. c.loop-vote.invariant.items d ++ sym adds d)
                ∙ (append_assoc old so_far (G x) ∙ ap (λ ys. old ++ ys) (sym more))));
            short = omega arith;
            cheap = λ h. subst (λ (zs : List Choice). AreCheap (c.args.relays + 1) zs) (sym (ap (λ v. v.items) w.choices-is ∙ w.push.ensures.items))
                (All-push (λ (z : Choice). z.attacks ≤ most_attacks (c.args.relays + 1)) c.loop-vote.choices.items (record { general = c.args.general; vote = x; attacks = w.attacks.result + w.total.result }) (c.loop-vote.invariant.cheap h) (rw add-one (omega arith)));
          }
      | push_choices-then-may_cast+in_default w ↦
          let plans : Below x ≡ None =
          sym (λ d. plan (g.C.Combine.combined c.args.rule.now) (on c.args.traitors.now) c.args.relays ((w.as_slice.ensures.value ∙ c.without-rest.ensures) d) (w.of-next.ensures (on c.args.traitors.now) c.args.general (sym w.is_among.ensures) d) (w.next_aims-aims.ensures d))
          ∙ (sym w.plan.ensures.plan ∙ ap items_of w.in_default.is)
          in
          let adds : G x ≡ [] = vote_fails c.args.sender (on c.args.traitors.now) c.args.aims.now c.args.general x (Below x) plans in
          let same : length c.if-may_cast.choices.items ≡ length c.loop-vote.choices.items = ap (λ v. length v.items) w.choices-is in
          record {
            items = ap (λ v. v.items) w.choices-is ∙ (c.loop-vote.invariant.items ∙ ap (λ ys. old ++ ys) (sym (append-nil so_far) ∙ ((λ d. so_far ++ sym adds d) ∙ sym more)));
            short = omega arith;
            cheap = λ h. subst (λ (zs : List Choice). AreCheap (c.args.relays + 1) zs) (sym (ap (λ v. v.items) w.choices-is)) (c.loop-vote.invariant.cheap h);
          }
      | push_choices-else-may_cast w ↦
          let adds : G x ≡ [] = cond-false (may_cast c.args.sender (on c.args.traitors.now) c.args.aims.now c.args.general x) (chosen c.args.sender c.args.general x (Below x)) [] (sym c.may_cast.ensures ∙ w.if-may_cast.false) in
          let same : length c.if-may_cast.choices.items ≡ length c.loop-vote.choices.items = ap (λ v. length v.items) w.choices-is in
          record {
            items = ap (λ v. v.items) w.choices-is ∙ (c.loop-vote.invariant.items ∙ ap (λ ys. old ++ ys) (sym (append-nil so_far) ∙ ((λ d. so_far ++ sym adds d) ∙ sym more)));
            short = omega arith;
            cheap = λ h. subst (λ (zs : List Choice). AreCheap (c.args.relays + 1) zs) (sym (ap (λ v. v.items) w.choices-is)) (c.loop-vote.invariant.cheap h);
          }
    ]
