use Rattle.std.proofs.Common.{◌≡◌, ◌≤◌, length}
use Rattle.round.specs.Delivery.{AreLetterIndices, AreTellers}
use Rattle.round.proofs.tellers.list_tellers.Given as goal

abbrev pub invariant-loop-general : goal.invariant-loop-general
invariant-loop-general l = record {
  few : l.count ≤ l.general;
  long : length l.names ≡ 13;
  wide : length l.rows ≡ 13;
  told : AreLetterIndices l.letters l.indices → AreTellers l.letters l.generals l.front l.general (record { count = l.count; generals = l.names; rows = l.rows });
}
