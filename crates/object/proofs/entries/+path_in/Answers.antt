use Rattle.std.proofs.Common.{arith}
use Rattle.object.proofs.EntryLemmas.{path_on}
use Rattle.object.proofs.entries.+path_in.Goals as goal

pub returns-in-Some-behind_value : goal.returns-in-Some-behind_value
returns-in-Some-behind_value t c =
    path_on c.args.count c.args.formats.now c.args.from c.args.bytes.now c.args.place c.in-Some.format c.in-Some-behind_value.next c.path_in.result
    (omega arith) c.in-Some.ensures c.if-format-eq1.false c.in-Some-behind_value.ensures.read c.path_in.ensures
