-- The contents of the activation are those of a letter.
use Rattle.std.proofs.Common.{◌∙◌, ap, sym, subst}
use Rattle.round.specs.Activation.{Activation}
use Rattle.machine.specs.Standing.{Standing}
use Rattle.round.specs.Letters.{Letter}
use Rattle.round.specs.Runs.{IsLetter}
use Rattle.round.specs.Running.{letter_left}
use Rattle.round.proofs.run.Running.into_letter.Goals as goal

pub invariant_of-result : goal.invariant_of-result
invariant_of-result c =
    let g = c.args.general in let r = c.args.round in let t = c.args.transcript.items in
    let e = c.into_outbox.ensures in
    let own = sym c.into_inner-activation.ensures in
    let steps = ap (λ (a : Standing). a.state.steps) own ∙ sym c.steps-steps.ensures in
    let relay = ap (λ (a : Standing). a.relay) own ∙ sym e.relay in
    let rows = ap (λ (a : Standing). a.state.outbox) own ∙ sym e.rows in
    let entries = ap (λ (a : Standing). a.state.entries) own ∙ sym e.entries in
    subst (λ (l : Letter). IsLetter l) (ap (λ (a : Activation). letter_left g r t a) (sym c.self.view_is)
    ∙ (λ i. record { general = g; round = r; context = c.self.inside.context.items; program = sym c.new.ensures i; transcript = t; steps = steps i; outbox = record { relay = relay i; rows = rows i; entries = entries i }; exited = c.self.inside.over }))
    c.requires
