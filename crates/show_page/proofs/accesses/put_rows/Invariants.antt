use Rattle.std.proofs.Common.{◌≡◌, ◌++◌, flat_map, take}
use Rattle.std.specs.String.{string_bytes}
use Rattle.show_page.specs.Account.{access_row}
use Rattle.show_page.proofs.accesses.put_rows.Given as goal

abbrev pub invariant-loop-access : goal.invariant-loop-access
invariant-loop-access l = string_bytes l.out ≡ string_bytes l.fn.out ++ flat_map access_row (take l.access-index l.accesses)
