use Rattle.std.proofs.Common.{◌≡◌, Bool, List, [], ◌∷◌, ◌++◌, refl, sym, ap, subst, ◌∙◌, arith, Option, Some}
use Rattle.std.specs.Prelude.{◌==◌, IfSome, slice_index_or}
use Rattle.std.proofs.lemmas.Bool.{eq-eqb, ne_eqb}
use Rattle.std.proofs.lemmas.List.{take_all}
use Rattle.arrayvec.specs.ArrayVec.{ArrayVec}
use Rattle.lies.specs.Limits.{AreCheap}
use Rattle.lies.specs.Plans.{items_of, meets, selections}
use Rattle.lies.specs.declared.choice.Choice.{Choice}
use Rattle.lies.proofs.Selecting.{best_of, best_none, best_all, popped, step_own, step_other, whole_passes, whole_fails}
use Rattle.lies.proofs.selection.+selection.Goals as goal
use Rattle.lies.proofs.selection.+selection.Goals.{cheapest_by-then-choice-general, cheapest_by-else-choice-general}

abbrev none : Choice
none = record { general = 0; vote = record { taken = 0; first = 0; second = 0 }; attacks = 0 }

pub cheapest-returns-then-meets-clause-plan : goal.cheapest-returns-then-meets-clause-plan
cheapest-returns-then-meets-clause-plan g t c =
    ap Some (c.copied.ensures ∙ c.as_slice-then-meets.ensures.value)
    ∙ sym (whole_passes (meets (g.C.Combine.combined c.args.rule.now) c.args.aims.now) c.args.begun.now.items c.args.choices.now c.args.off.now c.in_default.ensures.cases
    (sym (c.meets.ensures ∙ ap (meets (g.C.Combine.combined c.args.rule.now) c.args.aims.now) c.as_slice.ensures.value) ∙ c.if-meets.true))

pub cheapest-returns-else-meets-clause-plan : goal.cheapest-returns-else-meets-clause-plan
cheapest-returns-else-meets-clause-plan g t c =
    sym (whole_fails (meets (g.C.Combine.combined c.args.rule.now) c.args.aims.now) c.args.begun.now.items c.args.choices.now c.args.off.now c.in_default.ensures.cases
    (sym (c.meets.ensures ∙ ap (meets (g.C.Combine.combined c.args.rule.now) c.args.aims.now) c.as_slice.ensures.value) ∙ c.if-meets.false))

pub cheapest_by-loop-choice-init : goal.cheapest_by-loop-choice-init
cheapest_by-loop-choice-init g t c = record {
  kept = refl;
  best = sym (best_none (meets (g.C.Combine.combined c.args.rule.now) c.args.aims.now) c.args.begun.now.items (selections c.args.choices.now c.args.later.now) (λ choice. choice.general == c.args.general));
  cheap = tt;
}

pub cheapest_by-loop-choice-preserved : goal.cheapest_by-loop-choice-preserved
cheapest_by-loop-choice-preserved g t c =
    let passes : List Choice → Bool = meets (g.C.Combine.combined c.args.rule.now) c.args.aims.now in
    let own : Choice → Bool = λ choice. choice.general == c.args.general in
    let x : Choice = slice_index_or c.args.choices.now c.loop-choice.choice-index none in
    let Cheap : Option (ArrayVec Choice) → Type 0 = λ o. IfSome o (λ p. AreCheap c.args.relays p.items) in
    elim c.if-choice-general.branch [
      | cheapest_by-then-choice-general w ↦
          let pushed : w.push.new.self.items ≡ c.args.begun.now.items ++ x ∷ [] = w.push.ensures.items ∙ ap (λ xs. xs ++ x ∷ []) c.loop-choice.invariant.kept in
          record {
            kept =
                ap (λ v. v.items) w.begun-is
                ∙ (w.pop.ensures.rest ∙ popped c.args.begun.now.items w.cheapest-plan.new.begun.items x (w.cheapest-plan.ensures.kept ∙ pushed));
            best =
                ap items_of w.best-is
                ∙ step_own passes c.args.begun.now.items (selections c.args.choices.now c.args.later.now) own c.args.choices.now c.loop-choice.choice-index none c.loop-choice-test.true
                (eq-eqb x.general c.args.general w.if-choice-general.true) (items_of c.loop-choice.best) (items_of w.cheaper-best.result) (items_of w.cheapest-plan.result) w.push.new.self.items
                c.loop-choice.invariant.best pushed w.cheapest-plan.ensures.plan w.cheaper-best.ensures.plan;
            cheap = subst Cheap (sym w.best-is) w.cheaper-best.ensures.cheap;
          }
      | cheapest_by-else-choice-general w ↦ record {
        kept = ap (λ v. v.items) w.begun-is ∙ c.loop-choice.invariant.kept;
        best =
            ap items_of w.best-is
            ∙ (c.loop-choice.invariant.best
            ∙ step_other passes c.args.begun.now.items (selections c.args.choices.now c.args.later.now) own c.args.choices.now c.loop-choice.choice-index none c.loop-choice-test.true (ne_eqb x.general c.args.general w.if-choice-general.false));
        cheap = subst Cheap (sym w.best-is) c.loop-choice.invariant.cheap;
      }
    ]

pub cheapest_by-returns-clause-plan : goal.cheapest_by-returns-clause-plan
cheapest_by-returns-clause-plan g t c =
    let passes : List Choice → Bool = meets (g.C.Combine.combined c.args.rule.now) c.args.aims.now in
    let test = c.loop-choice-test.false in
    c.loop-choice.invariant.best
    ∙ (ap (best_of passes c.args.begun.now.items (selections c.args.choices.now c.args.later.now) (λ choice. choice.general == c.args.general)) (take_all c.loop-choice.choice-index c.args.choices.now (omega arith))
    ∙ best_all passes c.args.begun.now.items c.args.choices.now c.args.general c.args.later.now)
