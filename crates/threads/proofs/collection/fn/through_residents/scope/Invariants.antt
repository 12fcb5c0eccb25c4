use Rattle.std.proofs.Common.{◌≡◌, ◌<◌, ◌≤◌, ◌+◌, ℕ, [], length, vec_len, slice_index_or}
use Rattle.std.specs.Prelude.{All, vec_capacity}
use Rattle.threads.specs.Seen.{PosterSeen, poster_seen}
use Rattle.threads.specs.Inboxes.{AreOwn}
use Rattle.threads.proofs.collection.fn.through_residents.scope.Given as goal

abbrev pub invariant-loop-poster : goal.invariant-loop-poster
invariant-loop-poster g l = record {
  all : length l.handles.items + length l.posters.items ≡ length l.initial.posters.items;
  few : length l.handles.items + length l.posters.items ≤ 13;
  room : length l.handles.items + length l.posters.items ≤ vec_capacity l.handles;
  witnesses : length l.posters.items ≤ length l.witnesses.items;
  unserved : All (λ w. w.made ≡ 0) l.witnesses.items;
  inboxes : length l.posters.items ≤ length l.camp.now.inboxes.items;
  own : AreOwn l.camp.now.inboxes.items;
  each : (g : ℕ) (d : PosterSeen) → g < length l.posters.items → slice_index_or l.posters.items g d ≡ poster_seen l.camp.now.post.table g [];
}

abbrev pub decreases-loop-poster : goal.decreases-loop-poster
decreases-loop-poster g l = vec_len l.posters
