use Rattle.std.proofs.Common.{◌≡◌, ◌∙◌, ◌-◌, List, Option, Some, ap, arith, vec_len}
use Rattle.std.specs.Prelude.{Box}
use Rattle.std.specs.declared.alloc.Global.{Global}
use Rattle.verify.specs.declared.state.AbsState.{AbsState}
use Rattle.verify.specs.Kept.{KeptStates, all_unboxed, padded}
use Rattle.verify.proofs.Padded.{all_units, further, pushed}
use Rattle.verify.proofs.pending_states.keep_behind.Goals as goal

pub returns : goal.returns
returns c =
    let items = c.args.pending.now.items in
    let units = c.pending.inside.units in
    let before = c.pending.inside.states in
    let between = c.extend.new.states in
    let is : padded units (all_unboxed before.items) ≡ items = ap (λ (kept : KeptStates). kept.items) c.pending.view_is in
    let placed = ap (λ (kept : KeptStates). kept.places) c.pending.view_is in
    let long = all_units before.items items units is (omega (arith, before.ok.0)) in
    let still : padded units (all_unboxed between.items) ≡ items =
    ap (λ (l : List (Option (Box AbsState Global))). padded units (all_unboxed l)) c.extend.ensures.items
    ∙ further before.items items units is (c.args.unit - vec_len before) (omega (arith, before.ok.0)) in
    ap (λ (l : List (Option (Box AbsState Global))). padded units (all_unboxed l)) c.push_reserved.ensures.items
    ∙ pushed between.items items units still c.args.unit (Some c.args.state) (omega arith) (omega (arith, between.ok.0))
