-- One more general is considered.
use Rattle.std.proofs.Common.{◌≡◌, ◌∷◌, ◌++◌, [], List, ℕ, length, length-append, sym, ap, ◌∙◌, arith}
use Rattle.outbox.specs.Masks.{has_bit}
use Rattle.outbox.proofs.Members.{all_picked, next_no, next_yes}
use Rattle.outbox.proofs.receivers.Receivers.list.Goals as goal
use Rattle.outbox.proofs.receivers.Receivers.list.Goals.{then-has_bit, else-has_bit}

pub loop-general-preserved : goal.loop-general-preserved
loop-general-preserved c =
    let mask : ℕ = c.self.inside.mask in
    let g : ℕ = c.loop-general.general in
    let before : List ℕ = c.loop-general.list.items in
    let tested = ap (has_bit mask) (sym c.from.ensures) ∙ sym c.has_bit.ensures in
    elim c.if-has_bit.branch [
      | then-has_bit w ↦ record {
        picked = rw w.list-is (w.push.ensures.items ∙ (ap (λ (l : List ℕ). l ++ g ∷ []) c.loop-general.invariant.picked ∙ next_yes (has_bit mask) g (tested ∙ w.if-has_bit.true)));
        few = rw w.list-is (let e = ap length w.push.ensures.items in let long = length-append before (g ∷ []) in let few = c.loop-general.invariant.few in omega arith);
      }
      | else-has_bit w ↦ record {
        picked = rw w.list-is (c.loop-general.invariant.picked ∙ next_no (has_bit mask) g (tested ∙ w.if-has_bit.false));
        few = rw w.list-is (let few = c.loop-general.invariant.few in omega arith);
      }
    ]

pub returns : goal.returns
returns c =
    let end : c.loop-general.general ≡ 13 = omega arith in
    c.loop-general.invariant.picked ∙ (all_picked c.self.inside.mask c.loop-general.general end ∙ c.self.view_is)
