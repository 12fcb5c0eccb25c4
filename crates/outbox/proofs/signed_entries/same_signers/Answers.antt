use Rattle.std.proofs.Common.{◌∙◌, sym}
use Rattle.std.proofs.lemmas.Slice.Eq.{bytes_eq-Decides}
use Rattle.outbox.proofs.signed_entries.same_signers.Goals as goal

pub returns : goal.returns
returns c = (
  λ t. (bytes_eq-Decides c.args.signers.now c.args.others.now).0 (sym c.eq.ensures ∙ t),
  λ same. c.eq.ensures ∙ (bytes_eq-Decides c.args.signers.now c.args.others.now).1 same,
)
