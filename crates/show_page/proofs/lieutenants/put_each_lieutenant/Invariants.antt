use Rattle.std.proofs.Common.{◌≡◌, ◌++◌}
use Rattle.std.specs.List.{flat_map, range_with_len}
use Rattle.std.specs.String.{string_bytes}
use Rattle.show_page.specs.SignedAccount.{lieutenant_part}
use Rattle.show_page.proofs.lieutenants.put_each_lieutenant.Given as goal

abbrev pub invariant-loop-general : goal.invariant-loop-general
invariant-loop-general l = string_bytes l.out ≡ string_bytes l.fn.out ++ flat_map (lieutenant_part l.chronicle) (range_with_len 0 l.general)
