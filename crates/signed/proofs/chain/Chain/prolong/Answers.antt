use Rattle.std.proofs.Common.{rules}
use Rattle.signed.proofs.Room.{room_for}
use Rattle.signed.proofs.chain.Chain.prolong.Goals as goal

pub with-requires-clause-room : goal.with-requires-clause-room
with-requires-clause-room c = room_for c.self.inside.signers c.general-general.result c.self.invariant (search rules) (search rules)
