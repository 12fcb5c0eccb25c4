use Rattle.std.proofs.Common.{sym, subst}
use Rattle.absval.specs.declared.number_set.NumberSet.{NumberSet}
use Rattle.absval.specs.NumberSets.{Has}
use Rattle.absval.proofs.number_set.NumberSet.refine.Goals as goal

pub returns-in_err-first-2-clause-holds : goal.returns-in_err-first-2-clause-holds
returns-in_err-first-2-clause-holds c = λ x y g f e.
    let h = subst (λ (n : NumberSet). Has n x) (sym c.a.view_is) g in
    let k = subst (λ (n : NumberSet). Has n y) (sym c.b.view_is) f in
    let within = c.in_ok-first.ensures.holds x y h.range k.range e in
    absurd (c.in_err-first-2.ensures.holds x within.0 h.bits)

pub returns-in_err-second-clause-holds : goal.returns-in_err-second-clause-holds
returns-in_err-second-clause-holds c = λ x y g f e.
    let h = subst (λ (n : NumberSet). Has n x) (sym c.a.view_is) g in
    let k = subst (λ (n : NumberSet). Has n y) (sym c.b.view_is) f in
    let within = c.in_ok-first.ensures.holds x y h.range k.range e in
    absurd (c.in_err-second.ensures.holds y within.1 k.bits)

pub returns-clause-holds : goal.returns-clause-holds
returns-clause-holds c = λ x y g f e.
    let h = subst (λ (n : NumberSet). Has n x) (sym c.a.view_is) g in
    let k = subst (λ (n : NumberSet). Has n y) (sym c.b.view_is) f in
    let within = c.in_ok-first.ensures.holds x y h.range k.range e in
    (c.in_ok-first-2.ensures.holds x within.0 h.bits, c.in_ok-second.ensures.holds y within.1 k.bits)
