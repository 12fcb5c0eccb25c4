use Rattle.std.proofs.Common.{◌≡◌, ◌+◌, ◌*◌, ◌<◌, ℕ, suc, ◌∷◌, [], length}
use Rattle.world.specs.World.{each}
use Rattle.world.specs.Accounted.{letters_by}
use Rattle.threads.specs.Taking.{left_rounds}
use Rattle.threads.proofs.arrangement.arrange.Given as goal

abbrev pub invariant-loop-r : goal.invariant-loop-r
invariant-loop-r l = record {
  left : l.left.items ≡ left_rounds l.generals l.r l.initial.left.items;
  count : length l.rows.items ≡ l.r;
  fewer : length l.left.items + l.r * l.generals ≡ length l.initial.left.items;
  taken : l.rows.items ≡ each l.r (λ r. letters_by l.generals (suc r) l.initial.left.items ∷ []);
  long : (r : ℕ) → r < l.r → length (letters_by l.generals (suc r) l.initial.left.items) ≡ l.generals;
}
