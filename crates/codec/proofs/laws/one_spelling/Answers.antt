use Rattle.std.proofs.Common.{◌∙◌, sym}
use Rattle.codec.proofs.laws.one_spelling.Goals as goal

pub returns : goal.returns
returns c = λ a b program p q. p.spelled ∙ sym q.spelled
