use Rattle.std.proofs.Common.{◌≡◌, take}
use Rattle.surveyor.proofs.CoverLemmas.{ends_of}
use Rattle.surveyor.proofs.file_sums.ends.Given as goal

abbrev pub invariant-loop-finding : goal.invariant-loop-finding
invariant-loop-finding l = l.ends ≡ ends_of (take l.finding-index l.all)
