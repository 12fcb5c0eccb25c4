use Rattle.std.proofs.Common.{◌≡◌, ◌++◌, take}
use Rattle.std.specs.List.{flat_map}
use Rattle.std.specs.String.{string_bytes}
use Rattle.trial.specs.Notes.{letter_note}
use Rattle.trial.proofs.notes.put_call_notes.Given as goal

-- The notes on the calls so far.
abbrev pub invariant-loop-call : goal.invariant-loop-call
invariant-loop-call l = string_bytes l.out ≡ string_bytes l.fn.out ++ flat_map (letter_note l.letter) (take l.call-index l.calls)
