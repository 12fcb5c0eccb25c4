use Rattle.std.proofs.Common.{◌≡◌, ◌++◌, take}
use Rattle.std.specs.Prelude.{slice_index}
use Rattle.std.specs.List.{flat_map, enumerate_from}
use Rattle.std.specs.String.{string_bytes}
use Rattle.trial.specs.Lines.{word_line}
use Rattle.trial.proofs.lines.push_words.Given as goal

-- The lines for the words so far.
abbrev pub invariant-loop-index : goal.invariant-loop-index
invariant-loop-index l =
    string_bytes l.text ≡ string_bytes l.initial.text ++ flat_map (λ w. word_line (slice_index l.opening w.0) w.0 w.1) (enumerate_from 0 (take l.index l.words))
