use Rattle.std.proofs.Common.{ap, arith}
use Rattle.verify.specs.Kept.{KeptStates}
use Rattle.verify.proofs.Padded.{none_taken}
use Rattle.verify.proofs.pending_states.take_next.Goals as goal

pub returns-then-unit-len-clause-rest : goal.returns-then-unit-len-clause-rest
returns-then-unit-len-clause-rest c =
    let states = c.pending.inside.states in
    none_taken states.items c.args.pending.now.items c.pending.inside.units (ap (λ (kept : KeptStates). kept.items) c.pending.view_is) c.args.unit (omega (arith, states.ok.0))
