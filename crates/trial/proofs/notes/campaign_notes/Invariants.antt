use Rattle.std.proofs.Common.{◌≡◌, take}
use Rattle.std.specs.List.{flat_map}
use Rattle.std.specs.String.{string_bytes}
use Rattle.trial.specs.Notes.{letter_notes}
use Rattle.trial.proofs.notes.campaign_notes.Given as goal

-- The notes on the rounds so far.
abbrev pub invariant-loop-round : goal.invariant-loop-round
invariant-loop-round l = string_bytes l.text ≡ flat_map (λ letters. flat_map letter_notes letters) (take l.round-index l.rounds)
