use Rattle.std.proofs.Common.{sym, ◌∙◌}
use Rattle.asm.proofs.KeepingLemmas.{name_put}
use Rattle.asm.proofs.reader.put_name.Goals as goal

pub returns-clause-read : goal.returns-clause-read
returns-clause-read c = λ r k. name_put c.args.reading.now c.insert.new.self r c.args.name.now k (sym c.contains_key.ensures ∙ c.if-contains_key.false) c.in_ok-insert.ensures.updates
