use Rattle.std.proofs.Common.{◌∙◌, Some, ap, sym}
use Rattle.verify.specs.Kept.{unboxed}
use Rattle.verify.proofs.HandLaws.{given_back}
use Rattle.verify.proofs.pending_states.put_back.Goals as goal

pub returns-then-unit-pending : goal.returns-then-unit-pending
returns-then-unit-pending c = λ reached h.
    c.keep.ensures
    ∙ given_back reached c.args.pending.now.items c.args.unit (Some c.in-Some.state.value) (ap unboxed (sym c.in-Some.is) ∙ h.here) h.rest
