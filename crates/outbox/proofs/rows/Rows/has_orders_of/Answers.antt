-- The rows of each rank have the same orders.
use Rattle.std.proofs.Common.{◌∙◌, [], List, Option, ℕ, get_or, arith, sym, ap, refl, below_more}
use Rattle.std.proofs.lemmas.Bool.{false≢true}
use Rattle.outbox.specs.Rows.{orders_in}
use Rattle.outbox.proofs.Looks.{get_orders}
use Rattle.outbox.proofs.Sameness.{all_alike}
use Rattle.outbox.proofs.rows.Rows.has_orders_of.Goals as goal

pub returns : goal.returns
returns c = (
  λ h. all_alike c.args.self.now c.args.others.now c.loop-rank.rank (omega arith) (let end = c.loop-rank-test.false in omega arith) c.loop-rank.invariant,
  λ h. refl,
)

pub loop-rank-preserved : goal.loop-rank-preserved
loop-rank-preserved c =
    let one = get_orders c.args.self.now c.loop-rank.rank ∙ (ap orders_in (sym c.at.ensures) ∙ (sym c.told-told.ensures ∙ sym c.as_slice.ensures.value)) in
    let other = get_orders c.args.others.now c.loop-rank.rank ∙ (ap orders_in (sym c.at-in-loop-rank.ensures) ∙ (sym c.told-other.ensures ∙ sym c.as_slice-in-loop-rank.ensures.value)) in
    below_more _ _ c.loop-rank.invariant (one ∙ (c.are_same.ensures.0 c.if-not-are_same.false ∙ sym other))

pub returns-then-not-are_same : goal.returns-then-not-are_same
returns-then-not-are_same c = (
  λ h. absurd (false≢true h),
  λ same.
      let one = get_orders c.args.self.now c.loop-rank.rank ∙ (ap orders_in (sym c.at.ensures) ∙ (sym c.told-told.ensures ∙ sym c.as_slice.ensures.value)) in
      let other = get_orders c.args.others.now c.loop-rank.rank ∙ (ap orders_in (sym c.at-in-loop-rank.ensures) ∙ (sym c.told-other.ensures ∙ sym c.as_slice-in-loop-rank.ensures.value)) in
      let here = ap (λ (rows : List (List (Option ℕ))). get_or rows c.loop-rank.rank []) same in
      sym c.if-not-are_same.true ∙ c.are_same.ensures.1 (sym one ∙ (here ∙ other)),
)
