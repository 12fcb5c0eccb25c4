use Rattle.std.proofs.Common.{◌≡◌, ◌<◌, ◌+◌, ◌*◌, ◌^◌, ℕ, length, get_or, cond}
use Rattle.std.specs.Prelude.{nat_lt}
use Rattle.round.proofs.front.ranks_with.Given as goal

abbrev pub invariant-loop-x : goal.invariant-loop-x
invariant-loop-x l = record {
  wide : length l.ranks ≡ 13;
  done : (x t : ℕ) → x < l.x → t + cond {A = ℕ} (nat_lt x l.general) 1 0 ≡ l.below → get_or l.old x 0 * l.width + t < 2 ^ 32 → get_or l.ranks x 0 ≡ get_or l.old x 0 * l.width + t;
}
