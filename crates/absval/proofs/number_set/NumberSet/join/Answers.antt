use Rattle.std.proofs.Common.{sym, subst}
use Rattle.absval.specs.declared.number_set.NumberSet.{NumberSet}
use Rattle.absval.specs.NumberSets.{Has}
use Rattle.absval.proofs.number_set.NumberSet.join.Goals as goal

pub returns-clause-left : goal.returns-clause-left
returns-clause-left c = λ x g.
    let h = subst (λ (n : NumberSet). Has n x) (sym c.self.view_is) g in
    record { range = c.join.ensures.left x h.range; bits = c.join-2.ensures.left x h.bits }

pub returns-clause-right : goal.returns-clause-right
returns-clause-right c = λ x g.
    let h = subst (λ (n : NumberSet). Has n x) (sym c.other.view_is) g in
    record { range = c.join.ensures.right x h.range; bits = c.join-2.ensures.right x h.bits }
