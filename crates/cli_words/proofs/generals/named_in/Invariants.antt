use Rattle.std.proofs.Common.{◌≡◌, []}
use Rattle.text.specs.Stop.{comma}
use Rattle.text.specs.Parts.{pieces, left, left_len}
use Rattle.cli_words.specs.Generals.{generals_behind}
use Rattle.cli_words.proofs.generals.named_in.Given as goal

abbrev pub invariant-loop-rest : goal.invariant-loop-rest
invariant-loop-rest l = generals_behind l.generals.items (left comma l.rest) ≡ generals_behind [] (pieces comma l.word)

abbrev pub decreases-loop-rest : goal.decreases-loop-rest
decreases-loop-rest l = left_len l.rest
