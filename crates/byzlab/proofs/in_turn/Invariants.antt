use Rattle.std.specs.Prelude.{◌≡◌, None}
use Rattle.byzlab.specs.Failures.{IsStatus}
use Rattle.byzlab.proofs.in_turn.Given as goal

abbrev pub invariant-loop-words : goal.invariant-loop-words
invariant-loop-words g l = record {
  status : IsStatus l.endings.worst;
  count : l.endings.count ≡ l.words-index;
  written : l.endings.unwritten ≡ None;
  asked : l.endings.unasked ≡ None;
}
