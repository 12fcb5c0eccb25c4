use Rattle.trace.proofs.WrittenLemmas.{then_wrote, wrote-same}
use Rattle.trace.proofs.ChainLemmas.{dotted_parts}
use Rattle.trace.proofs.chains.put_dotted.Goals as goal

pub returns-in-len1-up : goal.returns-in-len1-up
returns-in-len1-up g c = wrote-same _ _ (dotted_parts c.args.generals.now _ c.in-len1-up.len_at_least) (then_wrote c.put_next.ensures c.put_joined.ensures)
