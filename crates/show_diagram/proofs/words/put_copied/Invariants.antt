use Rattle.std.proofs.Common.{◌≡◌, ◌++◌, take}
use Rattle.std.specs.List.{flat_map}
use Rattle.std.specs.String.{string_bytes}
use Rattle.show_diagram.specs.Words.{copied_words}
use Rattle.show_diagram.proofs.words.put_copied.Given as goal

abbrev pub invariant-loop-access : goal.invariant-loop-access
invariant-loop-access l = string_bytes l.out ≡ string_bytes l.fn.out ++ flat_map copied_words (take l.access-index l.accesses)
