-- One more part is made.
use Rattle.std.proofs.Common.{ap, ◌∷◌, []}
use Rattle.round.specs.Scenario.{program_of}
use Rattle.world.specs.declared.part.Progress.{Progress}
use Rattle.world.proofs.Holding.{more_each}
use Rattle.signed.specs.Sending.{begins_behind}
use Rattle.signed.proofs.opening.beginnings.Goals as goal

pub loop-general-preserved : goal.loop-general-preserved
loop-general-preserved c =
    more_each c.loop-general.general (λ j. begins_behind c.args.scenario.now c.args.sent.now j (program_of c.args.scenario.now j) ∷ []) c.loop-general.parts.items
    (c.in_ok-beginning.field-0 ∷ []) c.push.new.self.items c.in_ok-push.ensures.items c.loop-general.invariant (ap (λ (p : Progress). p ∷ []) c.in_ok-beginning.ensures)
