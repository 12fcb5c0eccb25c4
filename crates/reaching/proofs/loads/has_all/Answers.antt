use Rattle.std.proofs.Common.{sym}
use Rattle.verify.proofs.MemoryRows.{bytes_tested}
use Rattle.reaching.proofs.loads.has_all.Goals as goal

pub returns : goal.returns
returns c = sym (bytes_tested c.has_bytes.result c.args.stack.now.bytes c.args.window.place c.args.window.size c.has_bytes.ensures.known)
