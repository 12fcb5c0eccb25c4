use Rattle.std.proofs.Common.{ℕ, ◌+◌, ◌≤◌, ◌+ℤ◌, subst, sym}
use Rattle.std.specs.Prelude.{IfOk}
use Rattle.semantics.specs.declared.value.Region.{Region}
use Rattle.semantics.specs.Memory.{room_of}
use Rattle.mem.proofs.WindowLemmas.{context_answer, past_again, past_fits, past_is, small, stack_answer, sum_again, sum_fits, sum_is}
use Rattle.mem.proofs.window.window.Goals as goal

pub overflow_add-offset : goal.overflow_add-offset
overflow_add-offset c =
    let z = c.args.offset in
    let d = c.args.distance in
    let y = c.from.result in
    let e = c.from-2.result in
    let s = small z d y e c.ranges.offset c.ranges.distance c.from.ensures c.from-2.ensures in
    sum_fits z d y e s.offset s.distance s.fits

pub overflow_add-offset-in-Stack : goal.overflow_add-offset-in-Stack
overflow_add-offset-in-Stack c =
    let z = c.args.offset in
    let d = c.args.distance in
    let y = c.from.result in
    let e = c.from-2.result in
    let s = small z d y e c.ranges.offset c.ranges.distance c.from.ensures c.from-2.ensures in
    past_fits z d y e s.offset s.distance s.fits s.more

pub returns-in-Stack-clause-answer : goal.returns-in-Stack-clause-answer
returns-in-Stack-clause-answer c =
    let z = c.args.offset in
    let d = c.args.distance in
    let y = c.from.result in
    let e = c.from-2.result in
    let s = small z d y e c.ranges.offset c.ranges.distance c.from.ensures c.from-2.ensures in
    stack_answer c.args.region (z +ℤ d) (past_again y e) c.args.size c.inside.result c.in-Stack.is (past_is z d y e s.offset s.distance s.fits s.more) c.inside.ensures.answer

pub returns-in-Stack-clause-fits : goal.returns-in-Stack-clause-fits
returns-in-Stack-clause-fits c =
    subst (λ (r : Region). IfOk c.inside.result (λ (p : ℕ). p + c.args.size ≤ room_of r)) (sym c.in-Stack.is) c.inside.ensures.fits

pub returns-in-Context-clause-answer : goal.returns-in-Context-clause-answer
returns-in-Context-clause-answer c =
    let z = c.args.offset in
    let d = c.args.distance in
    let y = c.from.result in
    let e = c.from-2.result in
    let s = small z d y e c.ranges.offset c.ranges.distance c.from.ensures c.from-2.ensures in
    context_answer c.args.region (z +ℤ d) (sum_again y e) c.args.size c.inside-in-Context.result c.in-Context.is (sum_is z d y e s.offset s.distance s.fits) c.inside-in-Context.ensures.answer

pub returns-in-Context-clause-fits : goal.returns-in-Context-clause-fits
returns-in-Context-clause-fits c =
    subst (λ (r : Region). IfOk c.inside-in-Context.result (λ (p : ℕ). p + c.args.size ≤ room_of r)) (sym c.in-Context.is) c.inside-in-Context.ensures.fits
