use Rattle.std.proofs.Common.{◌≡◌, ◌+◌, length}
use Rattle.world.specs.Accounted.{letters_by}
use Rattle.threads.specs.Taking.{left_by_all}
use Rattle.threads.proofs.arrangement.take_round.Given as goal

abbrev pub invariant-loop-general : goal.invariant-loop-general
invariant-loop-general l = record {
  left : l.letters.items ≡ left_by_all l.general l.round l.initial.letters.items;
  fewer : length l.letters.items + l.general ≡ length l.initial.letters.items;
  taken : l.row.items ≡ letters_by l.general l.round l.initial.letters.items;
  long : length l.row.items ≡ l.general;
}
