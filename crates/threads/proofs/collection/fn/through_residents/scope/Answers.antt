-- The poster and the witness for the highest general who has no thread yet, and those for the lower generals.
use Rattle.std.proofs.Common.{rules, ◌≡◌, [], ◌∷◌, length, length-append, ap, sym, ◌∙◌, arith}
use Rattle.threads.specs.Seen.{PosterSeen, poster_seen}
use Rattle.shared_board.specs.Witnessed.{Witnessed}
use Rattle.threads.proofs.Popped.{kept_more, last_all, last_known, rest_all, rest_known}
use Rattle.threads.proofs.collection.fn.through_residents.scope.Goals as goal

pub spawn_scoped-started-requires-after_bounds : goal.spawn_scoped-started-requires-after_bounds
spawn_scoped-started-requires-after_bounds g c κs within =
    let table = c.captures.camp.now.post.table in
    let his : c.in-Some.poster ≡ poster_seen table (length c.pop.new.self.items) [] = last_known (λ n. poster_seen table n []) c.loop-poster.posters.items c.pop.new.self.items c.in-Some.poster c.loop-poster.invariant.each c.in-Some.ensures.items in (
      ap (λ (p : PosterSeen). p.table) his,
      (
        search rules,
        (
          c.resident-resident.ensures.tally,
          (
            ap (λ (p : PosterSeen). p.posted) his,
            (
              last_all (λ (w : Witnessed). w.made ≡ 0) c.loop-poster.witnesses.items c.pop-in-Some.new.self.items c.in-Some-pop.me c.loop-poster.invariant.unserved c.in-Some-pop.ensures.items,
              search rules,
            ),
          ),
        ),
      ),
    )

pub loop-poster-preserved : goal.loop-poster-preserved
loop-poster-preserved g c =
    let old = c.loop-poster.invariant in
    let more = kept_more c.spawn_scoped-started.result c.kept-unstarted.result c.loop-poster.handles.items c.kept-unstarted.new.handles.items c.kept-unstarted.ensures.handle (sym c.is_some.ensures ∙ c.if-is_some.false) in
    let posters = ap length c.in-Some.ensures.items in
    let witnesses = ap length c.in-Some-pop.ensures.items in record {
      all = (let all = old.all in omega (arith, length-append c.pop.new.self.items (c.in-Some.poster ∷ [])));
      few = (let few = old.few in omega (arith, length-append c.pop.new.self.items (c.in-Some.poster ∷ [])));
      room = (let room = old.room in let kept = c.kept-unstarted.ensures.room in omega (arith, length-append c.pop.new.self.items (c.in-Some.poster ∷ [])));
      witnesses = (let many = old.witnesses in omega (arith, length-append c.pop.new.self.items (c.in-Some.poster ∷ []), length-append c.pop-in-Some.new.self.items (c.in-Some-pop.me ∷ [])));
      unserved = rest_all (λ (w : Witnessed). w.made ≡ 0) c.loop-poster.witnesses.items c.pop-in-Some.new.self.items c.in-Some-pop.me old.unserved c.in-Some-pop.ensures.items;
      inboxes = (let many = old.inboxes in omega (arith, length-append c.pop.new.self.items (c.in-Some.poster ∷ [])));
      own = old.own;
      each = rest_known (λ n. poster_seen c.captures.camp.now.post.table n []) c.loop-poster.posters.items c.pop.new.self.items c.in-Some.poster old.each c.in-Some.ensures.items;
    }
