use Rattle.std.proofs.Common.{rules, arith, refl, replicate}
use Rattle.std.proofs.lemmas.Fmt.{length-decimal-le}
use Rattle.trace.proofs.WrittenLemmas.{next_digits, wrote-same}
use Rattle.trace.proofs.writer.put_behind.Goals as goal

pub write_digits-start-requires : goal.write_digits-start-requires
write_digits-start-requires g c = (search (rules, length-decimal-le 20), omega arith)

pub overflow_sub-digits : goal.overflow_sub-digits
overflow_sub-digits g c = let few = length-decimal-le 20 c.args.number (omega arith) (omega arith) (omega arith) in omega (arith, c.write_digits-start.ensures.start)

pub overflow_sub-start : goal.overflow_sub-start
overflow_sub-start g c = let few = length-decimal-le 20 c.args.number (omega arith) (omega arith) (omega arith) in omega (arith, c.write_digits-start.ensures.start)

pub returns : goal.returns
returns g c =
    let few = length-decimal-le 20 c.args.number (omega arith) (omega arith) (omega arith) in
    wrote-same _ _ (next_digits c.args.sign c.args.number c.write_digits-start.result (replicate 21 c.args.sign) c.write_digits-start.new.buf c.write_digits-start.ensures.start (omega (arith, c.write_digits-start.ensures.start)) (search rules) refl c.write_digits-start.ensures.written) c.put_all.ensures
