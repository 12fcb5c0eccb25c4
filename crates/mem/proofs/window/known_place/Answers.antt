use Rattle.std.proofs.Common.{◌+◌, ◌≤◌, ◌+ℤ◌, subst, sym, w64}
use Rattle.std.proofs.lemmas.Int.{to_z-of_z}
use Rattle.insn.specs.Insn.{bytes_of}
use Rattle.semantics.specs.declared.value.Region.{Region}
use Rattle.semantics.specs.Memory.{room_of}
use Rattle.mem.proofs.WindowLemmas.{context_known, context_place, distance_is, past_again, past_fits, past_is, stack_fits, stack_known, stack_place, sum_again, sum_fits, sum_is, window_fits}
use Rattle.mem.proofs.window.known_place.Goals as goal

pub overflow_add-offset : goal.overflow_add-offset
overflow_add-offset c =
    let z = c.args.offset in
    let d = c.args.distance in
    let n = bytes_of c.args.size in
    let offset = to_z-of_z w64 z c.ranges.offset in
    let distance = distance_is d c.from.result c.ranges.distance c.from.ensures in
    let fits = window_fits c.args.region (z +ℤ d) n c.requires in
    sum_fits z d z c.from.result offset distance fits

pub overflow_add-offset-in-Stack : goal.overflow_add-offset-in-Stack
overflow_add-offset-in-Stack c =
    let z = c.args.offset in
    let d = c.args.distance in
    let n = bytes_of c.args.size in
    let offset = to_z-of_z w64 z c.ranges.offset in
    let distance = distance_is d c.from.result c.ranges.distance c.from.ensures in
    let fits = window_fits c.args.region (z +ℤ d) n c.requires in
    let more = stack_fits c.args.region (z +ℤ d) n c.in-Stack.is c.requires in
    past_fits z d z c.from.result offset distance fits more

pub known_inside-requires : goal.known_inside-requires
known_inside-requires c =
    let z = c.args.offset in
    let d = c.args.distance in
    let n = bytes_of c.args.size in
    let offset = to_z-of_z w64 z c.ranges.offset in
    let distance = distance_is d c.from.result c.ranges.distance c.from.ensures in
    let fits = window_fits c.args.region (z +ℤ d) n c.requires in
    let more = stack_fits c.args.region (z +ℤ d) n c.in-Stack.is c.requires in
    stack_known c.args.region (z +ℤ d) (past_again z c.from.result) n c.in-Stack.is (past_is z d z c.from.result offset distance fits more) c.requires

pub known_inside-requires-in-Context : goal.known_inside-requires-in-Context
known_inside-requires-in-Context c =
    let z = c.args.offset in
    let d = c.args.distance in
    let n = bytes_of c.args.size in
    let offset = to_z-of_z w64 z c.ranges.offset in
    let distance = distance_is d c.from.result c.ranges.distance c.from.ensures in
    let fits = window_fits c.args.region (z +ℤ d) n c.requires in
    context_known c.args.region (z +ℤ d) (sum_again z c.from.result) n c.in-Context.is (sum_is z d z c.from.result offset distance fits) c.requires

pub returns-in-Stack-clause-place : goal.returns-in-Stack-clause-place
returns-in-Stack-clause-place c =
    let z = c.args.offset in
    let d = c.args.distance in
    let n = bytes_of c.args.size in
    let offset = to_z-of_z w64 z c.ranges.offset in
    let distance = distance_is d c.from.result c.ranges.distance c.from.ensures in
    let fits = window_fits c.args.region (z +ℤ d) n c.requires in
    let more = stack_fits c.args.region (z +ℤ d) n c.in-Stack.is c.requires in
    stack_place c.args.region (z +ℤ d) (past_again z c.from.result) n c.known_inside.result c.in-Stack.is (past_is z d z c.from.result offset distance fits more) c.known_inside.ensures.place

pub returns-in-Stack-clause-fits : goal.returns-in-Stack-clause-fits
returns-in-Stack-clause-fits c =
    subst (λ (r : Region). c.known_inside.result + bytes_of c.args.size ≤ room_of r) (sym c.in-Stack.is) c.known_inside.ensures.fits

pub returns-in-Context-clause-place : goal.returns-in-Context-clause-place
returns-in-Context-clause-place c =
    let z = c.args.offset in
    let d = c.args.distance in
    let n = bytes_of c.args.size in
    let offset = to_z-of_z w64 z c.ranges.offset in
    let distance = distance_is d c.from.result c.ranges.distance c.from.ensures in
    let fits = window_fits c.args.region (z +ℤ d) n c.requires in
    context_place c.args.region (z +ℤ d) (sum_again z c.from.result) n c.known_inside-in-Context.result c.in-Context.is (sum_is z d z c.from.result offset distance fits) c.known_inside-in-Context.ensures.place

pub returns-in-Context-clause-fits : goal.returns-in-Context-clause-fits
returns-in-Context-clause-fits c =
    subst (λ (r : Region). c.known_inside-in-Context.result + bytes_of c.args.size ≤ room_of r) (sym c.in-Context.is) c.known_inside-in-Context.ensures.fits
