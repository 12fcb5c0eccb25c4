use Rattle.std.proofs.Common.{◌≡◌, ◌++◌, true, map, vec_len}
use Rattle.std.specs.Prelude.{All}
use Rattle.crossbeam_queue.specs.Passes.{view, IsPassOf}
use Rattle.threads.specs.Delivery.{posted}
use Rattle.threads.proofs.post.all_back.Given as goal

abbrev pub invariant-loop-poster : goal.invariant-loop-poster
invariant-loop-poster g l = record {
  pass : IsPassOf l.queue l.pass;
  takes : (view l.pass).takes ≡ true;
  letters : (view l.pass).letters ≡ (view l.fn.pass).letters;
  back : map (λ p. posted p.general p.posted) l.fn.posters.items ≡ map (λ p. posted p.general p.posted) l.posters.items ++ (view l.pass).back;
  posts : All (λ p. p.table ≡ l.queue.table.shared.table_id) l.posters.items;
}

abbrev pub decreases-loop-poster : goal.decreases-loop-poster
decreases-loop-poster g l = vec_len l.posters
