use Rattle.std.proofs.Common.{arith}
use Rattle.text.proofs.PartsLemmas.{piece_last, piece_first}
use Rattle.text.proofs.parts.piece.Goals as goal

pub returns-in-empty-clause-first : goal.returns-in-empty-clause-first
returns-in-empty-clause-first c = piece_last c.args.stop c.args.bytes.now c.cut.result.0.now c.cut.result.1.now c.cut.ensures.front c.cut.ensures.back (omega arith)

pub returns-in-len1-up-clause-first : goal.returns-in-len1-up-clause-first
returns-in-len1-up-clause-first c = piece_first c.args.stop c.args.bytes.now c.cut.result.0.now c.cut.result.1.now c.cut.ensures.front c.cut.ensures.back (omega arith)
