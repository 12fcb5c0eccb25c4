-- One more part is made.
use Rattle.std.proofs.Common.{[], ◌∷◌, refl, arith}
use Rattle.round.specs.Scenario.{program_of}
use Rattle.world.specs.Closing.{blank}
use Rattle.world.proofs.Holding.{more_each}
use Rattle.world.proofs.opening.blanks.Goals as goal

pub loop-general-preserved : goal.loop-general-preserved
loop-general-preserved c =
    let i = c.loop-general.invariant in
    let e = c.in_ok-push_blank.ensures in
    let g = c.loop-general.general in
    record {
      items = more_each g (λ j. blank c.args.scenario.now c.args.before j (program_of c.args.scenario.now j) ∷ []) c.loop-general.parts.items (blank c.args.scenario.now c.args.before g (program_of c.args.scenario.now g) ∷ []) c.push_blank.new.parts.items e.items i.items refl;
      len = (let a = i.len in let b = e.len in omega arith);
      room = (let a = i.room in let b = e.room in omega arith);
    }
