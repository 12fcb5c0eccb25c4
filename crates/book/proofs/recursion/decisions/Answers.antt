use Rattle.std.proofs.Common.{◌≡◌, ◌<◌, [], ◌∷◌, false, length, ℕ, List, sym, ◌∙◌, arith, lit<, subst, refl}
use Rattle.std.proofs.lemmas.Bool.{or_from, or_left, ne_eqb, eq-eqb}
use Rattle.std.specs.Prelude.{◌==◌}
use Rattle.label.specs.Labels.{on}
use Rattle.book.specs.Table.{told}
use Rattle.book.specs.Decisions.{decision_of, AgreesIfBound}
use Rattle.book.proofs.Steps.{entries_more, others-more_no}
use Rattle.book.proofs.Listed.{table_agrees, listed_all, few_before}
use Rattle.book.proofs.recursion.decisions.Goals as goal
use Rattle.book.proofs.recursion.decisions.Goals.{then-general-commander, else-general-commander}

pub push-requires : goal.push-requires
push-requires c =
    let inside : c.loop-general.general < c.args.table.now.generals = let e = c.generals-generals.ensures.value in omega arith in
    let few : length c.loop-general.decisions.items < 12 = rw c.loop-general.invariant (few_before (decision_of c.args.table.now) c.args.table.now.generals c.args.table.now.commander c.loop-general.general c.generals-generals.ensures.within.few c.generals-generals.ensures.within.present inside (λ e. c.if-general-commander.true (e ∙ sym c.commander-commander.ensures.value))) in
    (lit< tt, few)

pub loop-general-preserved : goal.loop-general-preserved
loop-general-preserved c =
    elim c.if-general-commander.branch [
      | then-general-commander w ↦
          let fresh : on (c.args.table.now.commander ∷ []) c.loop-general.general ≡ false = or_from (c.args.table.now.commander == c.loop-general.general) false (ne_eqb _ _ (λ e. w.if-general-commander.true (sym e ∙ sym c.commander-commander.ensures.value))) refl in
          rw (w.decisions-is, w.push.ensures.items, c.loop-general.invariant, w.decision.ensures) (sym (entries_more (decision_of c.args.table.now) (c.args.table.now.commander ∷ []) c.loop-general.general fresh))
      | else-general-commander w ↦
          rw (w.decisions-is, c.loop-general.invariant, others-more_no (c.args.table.now.commander ∷ []) c.loop-general.general (or_left (c.args.table.now.commander == c.loop-general.general) false (eq-eqb _ _ (sym c.commander-commander.ensures.value ∙ sym w.if-general-commander.false)))) refl
    ]

pub returns-clause-values : goal.returns-clause-values
returns-clause-values c =
    let e : c.generals-generals.result ≡ c.args.table.now.generals = c.generals-generals.ensures.value in
    listed_all c.args.table.now c.loop-general.decisions.items c.loop-general.general (let h = c.loop-general-test.false in omega arith) (let h = c.loop-general.auto.general-end in omega arith) c.loop-general.invariant

pub returns-clause-agree : goal.returns-clause-agree
returns-clause-agree c =
    let P : List ℕ → Type 0 = AgreesIfBound c.args.table.now.generals c.args.table.now.commander c.args.table.now.bound (told c.args.table.now.messages) in
    subst P (sym (returns-clause-values c)) (table_agrees c.agreement.ensures c.args.table.now c.generals-generals.ensures.within.present)
