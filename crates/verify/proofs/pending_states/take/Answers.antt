use Rattle.std.proofs.Common.{◌∙◌, Option, ap, arith}
use Rattle.std.specs.Prelude.{slice_set, Box}
use Rattle.std.specs.declared.alloc.Global.{Global}
use Rattle.verify.specs.declared.state.AbsState.{AbsState}
use Rattle.verify.specs.Kept.{KeptStates, unboxed}
use Rattle.verify.proofs.Padded.{none_taken, put_at}
use Rattle.verify.proofs.pending_states.take.Goals as goal

pub returns-then-unit-len-clause-rest : goal.returns-then-unit-len-clause-rest
returns-then-unit-len-clause-rest c =
    let states = c.pending.inside.states in
    none_taken states.items c.args.pending.now.items c.pending.inside.units (ap (λ (kept : KeptStates). kept.items) c.pending.view_is) c.args.unit (omega (arith, states.ok.0))

pub returns-clause-rest : goal.returns-clause-rest
returns-clause-rest c =
    let states = c.pending.inside.states in
    put_at states.items c.args.pending.now.items c.pending.inside.units (ap (λ (kept : KeptStates). kept.items) c.pending.view_is) c.args.unit c.take.new.self (omega (arith, states.ok.0))
    ∙ ap (λ (o : Option (Box AbsState Global)). slice_set c.args.pending.now.items c.args.unit (unboxed o)) c.take.ensures.after
