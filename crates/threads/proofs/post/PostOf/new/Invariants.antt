use Rattle.std.proofs.Common.{◌≡◌, ℕ, ◌<◌, [], length, slice_index_or}
use Rattle.crossbeam_queue.specs.Passes.{view, IsPassOf}
use Rattle.threads.specs.Rule.{collector}
use Rattle.threads.specs.Seen.{PosterSeen, poster_seen}
use Rattle.threads.proofs.post.PostOf.new.Given as goal

abbrev pub invariant-loop : goal.invariant-loop
invariant-loop g l = record {
  pass : IsPassOf l.queue l.pass;
  knows : view l.pass ≡ collector [] (length l.posters.items) [];
  count : length l.posters.items ≡ l.counter;
  each : (g : ℕ) (d : PosterSeen) → g < length l.posters.items → slice_index_or l.posters.items g d ≡ poster_seen l.queue.table.shared.table_id g [];
}
