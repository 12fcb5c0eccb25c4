use Rattle.std.proofs.Common.{ℕ, ◌+◌, ◌≤◌, take, sym, ap, ◌∙◌, arith}
use Rattle.std.specs.Prelude.{slice_index_or}
use Rattle.std.proofs.lemmas.List.{take_more}
use Rattle.lies.specs.Limits.{most_attacks}
use Rattle.lies.specs.Plans.{attacks}
use Rattle.lies.specs.declared.choice.Choice.{Choice}
use Rattle.lies.proofs.PlanLemmas.{attacks_none}
use Rattle.lies.proofs.CodeLemmas.{attacks_push}
use Rattle.lies.proofs.LimitLemmas.{most_small, sum_few, sum_fits}
use Rattle.lies.proofs.cost.total.Goals as goal

abbrev none : Choice
none = record { general = 0; vote = record { taken = 0; first = 0; second = 0 }; attacks = 0 }

pub loop-choice-init : goal.loop-choice-init
loop-choice-init c = record { value = sym attacks_none; few = omega arith }

pub overflow_add-sum : goal.overflow_add-sum
overflow_add-sum c =
    let i : ℕ = c.loop-choice.choice-index in
    let one : (slice_index_or c.args.plan.now c.loop-choice.choice-index none).attacks ≤ most_attacks c.args.relays = c.requires.cheap c.loop-choice.choice-index none c.loop-choice-test.true in
    let small = most_small c.args.relays c.requires.short in
    let few = c.requires.few in
    let test = c.loop-choice-test.true in
    let sum = sum_fits c.loop-choice.choice-index c.args.relays c.loop-choice.sum c.requires.short (omega arith) c.loop-choice.invariant.few in
    omega arith

pub loop-choice-preserved : goal.loop-choice-preserved
loop-choice-preserved c =
    let x : Choice = slice_index_or c.args.plan.now c.loop-choice.choice-index none in
    record {
      value =
          ap (λ n. n + (slice_index_or c.args.plan.now c.loop-choice.choice-index none).attacks) c.loop-choice.invariant.value
          ∙ (sym (attacks_push (take c.loop-choice.choice-index c.args.plan.now) (slice_index_or c.args.plan.now c.loop-choice.choice-index none))
          ∙ ap attacks (sym (take_more c.args.plan.now c.loop-choice.choice-index none c.loop-choice-test.true)));
      few = sum_few c.loop-choice.choice-index (most_attacks c.args.relays) c.loop-choice.sum (slice_index_or c.args.plan.now c.loop-choice.choice-index none).attacks c.loop-choice.invariant.few
          (c.requires.cheap c.loop-choice.choice-index none c.loop-choice-test.true);
    }
