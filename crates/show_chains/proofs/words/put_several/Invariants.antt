use Rattle.std.proofs.Common.{◌≡◌, ◌++◌, take}
use Rattle.std.specs.List.{flat_map}
use Rattle.std.specs.String.{string_bytes}
use Rattle.show_chains.specs.Words.{several_words}
use Rattle.show_chains.proofs.words.put_several.Given as goal

-- The sentences of the strokes so far are written.
abbrev pub invariant-loop-stroke : goal.invariant-loop-stroke
invariant-loop-stroke l = string_bytes l.out ≡ string_bytes l.fn.out ++ flat_map several_words (take l.stroke-index l.strokes)
