use Rattle.std.proofs.Common.{arith}
use Rattle.std.proofs.lemmas.Bool.Decides.{nat_tests}
use Rattle.bounds.specs.Stories.{group_of}
use Rattle.bounds.proofs.group.group_of.Goals as goal

pub returns-then-general-commander : goal.returns-then-general-commander
unfolding group_of
returns-then-general-commander c = grind (arith, nat_tests)

pub returns-then-general-commander-2 : goal.returns-then-general-commander-2
unfolding group_of
returns-then-general-commander-2 c = grind (arith, nat_tests)

pub returns-else-general-commander-2 : goal.returns-else-general-commander-2
unfolding group_of
returns-else-general-commander-2 c = grind (arith, nat_tests)
