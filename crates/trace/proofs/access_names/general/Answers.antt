use Rattle.std.proofs.Common.{sym}
use Rattle.trace.proofs.Generals.{general_some}
use Rattle.trace.proofs.access_names.general.Goals as goal

pub returns : goal.returns
returns c = general_some c.args.word.now c.in_ok-number_within.field-0 (sym c.in_ok-number_within.ensures.value)
