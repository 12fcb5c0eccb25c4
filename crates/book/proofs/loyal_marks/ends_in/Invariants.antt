use Rattle.std.proofs.Common.{◌≡◌, take}
use Rattle.book.specs.Written.{ends_in}
use Rattle.book.proofs.loyal_marks.ends_in.Given as goal

abbrev pub invariant-loop-other : goal.invariant-loop-other
invariant-loop-other l = l.is_last ≡ ends_in (take l.other-index l.label) l.general
