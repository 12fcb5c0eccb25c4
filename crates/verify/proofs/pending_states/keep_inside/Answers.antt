use Rattle.std.proofs.Common.{Some, ap, arith}
use Rattle.verify.specs.Kept.{KeptStates}
use Rattle.verify.proofs.Padded.{put_at}
use Rattle.verify.proofs.pending_states.keep_inside.Goals as goal

pub returns : goal.returns
returns c =
    let states = c.pending.inside.states in
    put_at states.items c.args.pending.now.items c.pending.inside.units (ap (λ (kept : KeptStates). kept.items) c.pending.view_is) c.args.unit (Some c.args.state)
    (let placed = ap (λ (kept : KeptStates). kept.places) c.pending.view_is in omega (arith, states.ok.0))
