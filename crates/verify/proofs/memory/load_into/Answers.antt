use Rattle.std.proofs.Common.{◌≡◌, ◌∙◌, Err, ap, rules, w16}
use Rattle.std.specs.Prelude.{Result}
use Rattle.std.proofs.lemmas.Int.{to_z-of_z}
use Rattle.semantics.specs.declared.value.Region.TheVariants.{Stack, Context}
use Rattle.verify.specs.declared.reason.Reason.{Reason}
use Rattle.verify.specs.Reasons.{outcome}
use Rattle.verify.proofs.MemoryRows.{load_out, given_by_stack}
use Rattle.verify.proofs.memory.load_into.Goals as goal

pub returns-in_err-window-in-Context : goal.returns-in_err-window-in-Context
returns-in_err-window-in-Context c =
    let same : c.from_residual.result ≡ Err c.in_err-window-in-Context.field-0.0 = search rules in
    ap (λ (r : Result (Unit {0}) Reason). outcome r c.args.register.now) same
    ∙ load_out c.args.stack.now c.args.size c.args.region Context c.args.offsets.0 c.args.offsets.1 c.args.distance _ c.bytes.result c.in_err-window-in-Context.field-0.0
    c.in-Context.is (to_z-of_z w16 c.args.distance c.ranges.distance) c.bytes.ensures.bytes c.in_err-window-in-Context.ensures.exact

pub returns-in_err-cells-in-Stack : goal.returns-in_err-cells-in-Stack
returns-in_err-cells-in-Stack c =
    let same : c.from_residual-in_err-cells-in-Stack.result ≡ Err c.in_err-cells-in-Stack.field-0.0 = search rules in
    ap (λ (r : Result (Unit {0}) Reason). outcome r c.args.register.now) same
    ∙ load_out c.args.stack.now c.args.size c.args.region Stack c.args.offsets.0 c.args.offsets.1 c.args.distance _ c.bytes-in-Stack.result c.in_err-cells-in-Stack.field-0.0
    c.in-Stack.is (to_z-of_z w16 c.args.distance c.ranges.distance) c.bytes-in-Stack.ensures.bytes c.in_err-cells-in-Stack.ensures.exact

pub returns-in_ok-cells-in-Stack : goal.returns-in_ok-cells-in-Stack
returns-in_ok-cells-in-Stack c =
    given_by_stack c.args.stack.now c.args.size c.args.region c.args.offsets.0 c.args.offsets.1 c.args.distance _ c.bytes-in-Stack.result c.in_ok-cells-in-Stack.cells _
    c.in-Stack.is (to_z-of_z w16 c.args.distance c.ranges.distance) c.bytes-in-Stack.ensures.bytes c.in_ok-cells-in-Stack.ensures.exact c.load_stack.ensures
