use Rattle.std.proofs.Common.{◌≡◌}
use Rattle.world_tests.proofs.posts.send_all.Given as goal

abbrev pub invariant-loop-letter : goal.invariant-loop-letter
invariant-loop-letter g l = (l.poster.table ≡ l.post.table) × (l.poster.general ≡ l.general)
