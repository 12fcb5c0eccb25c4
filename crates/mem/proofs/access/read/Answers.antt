-- The value at the window's index.
use Rattle.std.proofs.Common.{◌∙◌, ap, subst}
use Rattle.std.specs.Prelude.{Result, IsOk}
use Rattle.insn.specs.Insn.{bytes_of}
use Rattle.semantics.specs.declared.value.Region.{Region}
use Rattle.semantics.specs.declared.value.Value.{Value}
use Rattle.semantics.specs.State.{Cause}
use Rattle.semantics.specs.Memory.{value_in}
use Rattle.mem.specs.Places.{part_at}
use Rattle.mem.proofs.Loading.{as_passed, read_at, context_value}
use Rattle.mem.proofs.access.read.Goals as goal

pub known_value-requires-clause-known : goal.known_value-requires-clause-known
known_value-requires-clause-known c =
    let n = bytes_of c.args.size in
    let at = read_at c.args.context.now c.args.stack.now n c.args.region c.args.offset c.args.distance c.known_place-place.result (as_passed c.args.region c.args.offset c.args.distance n c.known_place-place.result c.ranges.offset c.ranges.distance c.known_place-place.ensures.place) in
    subst (λ (r : Result Value Cause). IsOk r) (at ∙ ap (λ (g : Region). value_in (part_at c.args.context.now c.args.stack.now n (g, c.known_place-place.result))) c.in-Stack.is) c.requires

pub returns-in-Stack : goal.returns-in-Stack
returns-in-Stack c =
    let n = bytes_of c.args.size in
    read_at c.args.context.now c.args.stack.now n c.args.region c.args.offset c.args.distance c.known_place-place.result (as_passed c.args.region c.args.offset c.args.distance n c.known_place-place.result c.ranges.offset c.ranges.distance c.known_place-place.ensures.place)
    ∙ (ap (λ (g : Region). value_in (part_at c.args.context.now c.args.stack.now n (g, c.known_place-place.result))) c.in-Stack.is ∙ c.known_value.ensures)

pub returns-in-Context : goal.returns-in-Context
returns-in-Context c =
    let n = bytes_of c.args.size in
    read_at c.args.context.now c.args.stack.now n c.args.region c.args.offset c.args.distance c.known_place-place.result (as_passed c.args.region c.args.offset c.args.distance n c.known_place-place.result c.ranges.offset c.ranges.distance c.known_place-place.ensures.place)
    ∙ (ap (λ (g : Region). value_in (part_at c.args.context.now c.args.stack.now n (g, c.known_place-place.result))) c.in-Context.is
    ∙ rw c.number.ensures (context_value c.args.context.now c.known_place-place.result n))
