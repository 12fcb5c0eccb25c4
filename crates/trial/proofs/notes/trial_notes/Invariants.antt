use Rattle.std.proofs.Common.{◌≡◌, take}
use Rattle.std.specs.List.{flat_map}
use Rattle.std.specs.String.{string_bytes}
use Rattle.trial.specs.Notes.{note_of}
use Rattle.trial.proofs.notes.trial_notes.Given as goal

-- The notes on the calls so far.
abbrev pub invariant-loop-call : goal.invariant-loop-call
invariant-loop-call l = string_bytes l.text ≡ flat_map (note_of l.places l.shape) (take l.call-index l.calls)
