use Rattle.std.proofs.Common.{◌≡◌, ◌≤◌, ◌+◌, ◌-◌, ◌*◌, ◌++◌, [], length, take}
use Rattle.std.specs.Prelude.{flat_map, if◌then◌else◌}
use Rattle.label.specs.Labels.{on}
use Rattle.lies.specs.Limits.{AreCheap}
use Rattle.lies.specs.Plans.{choices_of, chosen, may_cast, next_aims, plan, sender_of, without}
use Rattle.lies.proofs.plan.+plan.Given as goal

abbrev pub decreases-plan : goal.decreases-plan
decreases-plan g l = 2 * l.relays

abbrev pub decreases-push_choices : goal.decreases-push_choices
decreases-push_choices g l = 2 * l.relays + 1

abbrev pub invariant-plan-loop-general : goal.invariant-plan-loop-general
invariant-plan-loop-general g l = record {
  items : l.choices.items ≡ flat_map (λ j. choices_of (λ s a. plan (g.C.Combine.combined l.rule) (on l.traitors) (l.relays - 1) (without l.off j) s a) l.sender (on l.traitors) l.aims j) (take l.general-index l.off);
  short : length l.choices.items ≤ 8 * l.general-index;
  cheap : AreCheap l.relays l.choices.items;
}

abbrev pub invariant-push_choices-loop-vote : goal.invariant-push_choices-loop-vote
invariant-push_choices-loop-vote g l = record {
  items : l.choices.items ≡ l.initial.choices.items ++ flat_map (λ vote. if may_cast l.sender (on l.traitors) l.aims l.general vote
      then chosen l.sender l.general vote (plan (g.C.Combine.combined l.rule) (on l.traitors) l.relays (without l.off l.general) (sender_of (on l.traitors) l.general vote.taken) (next_aims l.aims l.general vote)) else [])
      (take l.vote-index l.vote-items);
  short : length l.choices.items ≤ length l.initial.choices.items + l.vote-index;
  cheap : AreCheap (l.relays + 1) l.initial.choices.items → AreCheap (l.relays + 1) l.choices.items;
}
