use Rattle.std.proofs.Common.{◌≡◌, ◌++◌, take}
use Rattle.std.specs.List.{flat_map}
use Rattle.std.specs.String.{string_bytes}
use Rattle.trial.specs.Notes.{letter_notes}
use Rattle.trial.proofs.notes.put_round_notes.Given as goal

-- The notes on the letters so far.
abbrev pub invariant-loop-letter : goal.invariant-loop-letter
invariant-loop-letter l = string_bytes l.out ≡ string_bytes l.fn.out ++ flat_map letter_notes (take l.letter-index l.letters)
