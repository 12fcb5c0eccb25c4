use Rattle.std.proofs.Common.{◌≡◌, map}
use Rattle.text.specs.Stop.{comma}
use Rattle.text.specs.Parts.{pieces, left, left_len}
use Rattle.asm.specs.Line.{tokens_on}
use Rattle.asm.proofs.outline.push_operands.Given as goal

abbrev pub invariant-loop-rest : goal.invariant-loop-rest
invariant-loop-rest l = tokens_on (map (λ r. r.now) l.words.items) (left comma l.rest) ≡ tokens_on (map (λ r. r.now) l.fn.words.items) (pieces comma l.fn.text)

abbrev pub decreases-loop-rest : goal.decreases-loop-rest
decreases-loop-rest l = left_len l.rest
