use Rattle.std.proofs.Common.{take}
use Rattle.std.specs.Prelude.{All}
use Rattle.signed.specs.Logs.{HasFewEntries}
use Rattle.signed.proofs.letter_sendings.recall_few.Given as goal

abbrev pub invariant-loop-letter : goal.invariant-loop-letter
invariant-loop-letter l = All HasFewEntries (take l.letter-index l.letters)
