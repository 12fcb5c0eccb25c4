use Rattle.std.proofs.Common.{◌≡◌, ◌<◌, ◌++◌, length, map}
use Rattle.text.specs.Stop.{space, feed}
use Rattle.text.specs.Parts.{left_len, pieces}
use Rattle.world.specs.Playing.{lists_in}
use Rattle.trace.specs.Names.{named}
use Rattle.trace.specs.Marks.{all_names, behind, lines_left}
use Rattle.trace.proofs.access_names.names.Given as goal

abbrev pub invariant-loop-rest : goal.invariant-loop-rest
invariant-loop-rest l = record {
  told : lists_in l.rounds.items ++ all_names (behind l.names.items (named (map (pieces space) (lines_left l.rest)))) ≡ all_names (named (map (pieces space) (pieces feed l.text)));
  few : length l.rounds.items < l.most;
}

abbrev pub decreases-loop-rest : goal.decreases-loop-rest
decreases-loop-rest l = left_len l.rest
