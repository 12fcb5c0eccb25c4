use Rattle.std.proofs.Common.{◌≡◌, take, None}
use Rattle.round.specs.Letters.{letter_of}
use Rattle.signed.proofs.letter_sendings.entries_of.Given as goal

abbrev pub invariant-loop-index : goal.invariant-loop-index
invariant-loop-index l = letter_of (take l.index l.letters) l.general ≡ None
