-- The bits are set for exactly the other generals.
use Rattle.std.proofs.Common.{◌++◌, ◌∷◌, []}
use Rattle.signed.proofs.Marks.{marks_more}
use Rattle.signed.proofs.Masks.{but_are}
use Rattle.signed.proofs.entries.receivers.Goals as goal

pub returns : goal.returns
returns c =
    but_are c.args.generals c.below.result c.with.result c.without.result (c.args.chain.now.signers ++ c.args.general ∷ []) c.below.ensures
    (marks_more c.args.chain.now.signers c.args.general c.bits.result c.with.result c.bits.ensures.each c.with.ensures) c.without.ensures
