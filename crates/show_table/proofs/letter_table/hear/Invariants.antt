use Rattle.std.proofs.Common.{take}
use Rattle.round.specs.Told.{WasTold}
use Rattle.show_table.proofs.letter_table.hear.Given as goal

-- What the lieutenants received in the rounds so far.
abbrev pub invariant-loop-round : goal.invariant-loop-round
invariant-loop-round l = WasTold l.scenario (take l.round-index l.letters) l.told
