use Rattle.std.proofs.Common.{ℕ, ◌≡◌, ◌<◌, Bool, length, sym, ap, ◌∙◌, arith, lit<}
use Rattle.std.specs.Prelude.{filter, ◌==◌}
use Rattle.std.specs.Int.{bit_at}
use Rattle.std.proofs.lemmas.Bool.{eq-eqb, ne_eqb}
use Rattle.std.proofs.lemmas.Nat.Bits.{shr_and_one}
use Rattle.label.specs.Labels.{generals}
use Rattle.lies.proofs.CodeLemmas.{filter_few, filter_yes, filter_no}
use Rattle.lies.proofs.search.members.Goals as goal
use Rattle.lies.proofs.search.members.Goals.{then-set-general-eq1, else-set-general-eq1}

pub push-requires : goal.push-requires
push-requires c =
    let t : ℕ → Bool = λ g. bit_at c.args.set g == 1 in
    let few = filter_few (λ g. bit_at c.args.set g == 1) c.loop-general.general in
    let so : length c.loop-general.traitors.items ≡ length (filter (λ g. bit_at c.args.set g == 1) (generals c.loop-general.general)) = ap length c.loop-general.invariant in
    let limit = c.requires in
    let test = c.loop-general-test.true in
    let room : length c.loop-general.traitors.items < 13 = omega arith in
    (lit< tt, room)

pub loop-general-preserved : goal.loop-general-preserved
loop-general-preserved c = elim c.if-set-general-eq1.branch [
  | then-set-general-eq1 w ↦
      rw (w.traitors-is, w.push.ensures.items, c.loop-general.invariant)
      (sym (filter_yes (λ g. bit_at c.args.set g == 1) c.loop-general.general (eq-eqb (bit_at c.args.set c.loop-general.general) 1 (sym (shr_and_one c.args.set c.loop-general.general) ∙ w.if-set-general-eq1.true))))
  | else-set-general-eq1 w ↦
      rw (w.traitors-is, c.loop-general.invariant)
      (sym (filter_no (λ g. bit_at c.args.set g == 1) c.loop-general.general (ne_eqb (bit_at c.args.set c.loop-general.general) 1 (λ e. w.if-set-general-eq1.false (shr_and_one c.args.set c.loop-general.general ∙ e)))))
]
