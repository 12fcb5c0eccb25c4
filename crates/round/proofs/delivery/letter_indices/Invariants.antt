use Rattle.std.proofs.Common.{◌≡◌, ◌<◌, ℕ, length, get_or}
use Rattle.std.specs.Prelude.{slice_get}
use Rattle.round.specs.Letters.{letter_of}
use Rattle.round.proofs.delivery.letter_indices.Given as goal

abbrev pub invariant-loop-general : goal.invariant-loop-general
invariant-loop-general l = record {
  wide : length l.indices ≡ 13;
  stand : (g : ℕ) → g < l.general → slice_get l.letters (get_or l.indices g 0) ≡ letter_of l.letters g;
}
