use Rattle.std.proofs.Common.{◌≡◌, ◌++◌, take}
use Rattle.std.specs.String.{string_bytes}
use Rattle.show_tree.specs.Places.{later_names}
use Rattle.show_tree.proofs.places.put_rest.Given as goal

abbrev pub invariant-loop-general : goal.invariant-loop-general
invariant-loop-general l = string_bytes l.out ≡ string_bytes l.fn.out ++ later_names (take l.general-index l.rest)
