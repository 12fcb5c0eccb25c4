use Rattle.std.proofs.Common.{◌≡◌, []}
use Rattle.std.specs.Prelude.{is_some}
use Rattle.text.specs.Stop.{comma}
use Rattle.text.specs.Parts.{pieces, left, left_len}
use Rattle.cli_words.specs.Generals.{generals_behind}
use Rattle.cli_words.proofs.generals.names_generals.Given as goal

abbrev pub invariant-loop-rest : goal.invariant-loop-rest
invariant-loop-rest l = is_some (generals_behind [] (left comma l.rest)) ≡ is_some (generals_behind [] (pieces comma l.word))

abbrev pub decreases-loop-rest : goal.decreases-loop-rest
decreases-loop-rest l = left_len l.rest
