use Rattle.std.proofs.Common.{◌≡◌, length}
use Rattle.text.specs.Parts.{pieces}
use Rattle.cli_answers.specs.Advice.{last_piece, quote}
use Rattle.cli_answers.proofs.advice.behind_quotes.Given as goal

abbrev pub invariant-loop-behind : goal.invariant-loop-behind
invariant-loop-behind l = last_piece (pieces quote l.rest) ≡ last_piece (pieces quote l.help)

abbrev pub decreases-loop-behind : goal.decreases-loop-behind
decreases-loop-behind l = length l.rest
