use Rattle.std.proofs.Common.{rules, arith, refl, replicate, ap, take, ◌++◌, ◌∙◌, length}
use Rattle.std.proofs.lemmas.Fmt.{length-decimal-le}
use Rattle.trace.specs.Lines.{repeated}
use Rattle.trace.proofs.WrittenLemmas.{next_digits}
use Rattle.trace.proofs.line_buffer.with_digits.Goals as goal

pub write_digits-start-requires : goal.write_digits-start-requires
write_digits-start-requires c = (search (rules, length-decimal-le 20), omega arith)

pub overflow_sub-digits : goal.overflow_sub-digits
overflow_sub-digits c = let few = length-decimal-le 10 c.args.number (omega arith) (omega arith) (omega arith) in omega (arith, c.write_digits-start.ensures.start)

pub overflow_sub-start : goal.overflow_sub-start
overflow_sub-start c = let few = length-decimal-le 10 c.args.number (omega arith) (omega arith) (omega arith) in omega (arith, c.write_digits-start.ensures.start)

pub with_copies-requires-clause-short : goal.with_copies-requires-clause-short
with_copies-requires-clause-short c =
    let few = length-decimal-le 10 c.args.number (omega arith) (omega arith) (omega arith) in
    let e = next_digits 32 c.args.number c.write_digits-start.result (replicate 21 32) c.write_digits-start.new.buf c.write_digits-start.ensures.start (omega (arith, c.write_digits-start.ensures.start)) (search rules) refl c.write_digits-start.ensures.written in
    let long = ap length e in
    omega (arith, c.requires)

pub returns-clause-bytes : goal.returns-clause-bytes
returns-clause-bytes c =
    let few = length-decimal-le 10 c.args.number (omega arith) (omega arith) (omega arith) in
    c.with_copies.ensures.bytes ∙ ap (λ t. take c.args.count c.args.bytes.now ++ repeated c.args.times t) (next_digits 32 c.args.number c.write_digits-start.result (replicate 21 32) c.write_digits-start.new.buf c.write_digits-start.ensures.start (omega (arith, c.write_digits-start.ensures.start)) (search rules) refl c.write_digits-start.ensures.written)
