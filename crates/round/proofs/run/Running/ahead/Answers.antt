-- The run goes as far as the limit and the patience allow.
use Rattle.std.proofs.Common.{◌≡◌, ◌∙◌, ap, sym}
use Rattle.std.specs.Arc.{arc_value}
use Rattle.machine.specs.Standing.{Standing}
use Rattle.round.specs.Runs.{IsWithin}
use Rattle.round.specs.Running.{activation_of}
use Rattle.round.proofs.Turning.{went_under}
use Rattle.round.proofs.run.Running.ahead.Goals as goal

pub returns-clause-went : goal.returns-clause-went
returns-clause-went c =
    let stands : c.deref_mut.result.now ≡ c.self.inside.activation.value = c.deref_mut.ensures.value in
    let view = ap (λ (old : Standing). activation_of c.self.inside.patience (arc_value c.self.inside.program) c.self.inside.context.items old c.self.inside.over) stands ∙ c.self.view_is in
    let within : IsWithin c.self.inside.patience c.deref_mut.result.now.state.steps = rw stands c.self.invariant.within in
    let both = went_under c.self.inside.patience (arc_value c.self.inside.program) c.deref.result.now c.self.inside.context.items c.as_slice.result.now c.args.limit c.lesser-most.result c.deref_mut.result.now c.many-self-inside.new.activation
    c.self.inside.over c.many-self-inside.result c.args.self.now c.deref.ensures c.as_slice.ensures.value c.lesser-most.ensures view (sym c.has_ended.ensures.ended ∙ c.if-has_ended.false) within c.many-self-inside.ensures.within
    c.many-self-inside.ensures.went c.many-self-inside.ensures.pauses in
    both.0
