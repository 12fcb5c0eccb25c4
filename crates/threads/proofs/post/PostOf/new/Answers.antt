use Rattle.std.proofs.Common.{ap, ◌∙◌, ◌≡◌, ℕ, ◌+◌, ◌<◌, ◌++◌, ◌∷◌, [], length, arith, sym, rules, slice_index_or, List, subst, length-append}
use Rattle.threads.specs.Rule.{collector, poster}
use Rattle.threads.specs.Seen.{PosterSeen, poster_seen}
use Rattle.threads.specs.declared.knowledge.Known.{Known}
use Rattle.crossbeam_queue.specs.Passes.{view}
use Rattle.threads.proofs.Rules.{begins_only, hires_only, each_more}
use Rattle.threads.proofs.post.PostOf.new.Goals as goal

pub ruled-requires-clause-rule : goal.ruled-requires-clause-rule
ruled-requires-clause-rule g c = begins_only g.C.Claim.holds

pub another-theirs-requires-clause-rule : goal.another-theirs-requires-clause-rule
another-theirs-requires-clause-rule g c = hires_only g.C.Claim.holds _ _ (ap (λ (v : Known). v.takes) c.loop.invariant.knows)

pub loop-preserved : goal.loop-preserved
loop-preserved g c =
    let ps = c.loop.posters.items in
    let id = c.in_ok-queue.queue.table.shared.table_id in
    let p = view c.another-theirs.result in
    let new : PosterSeen = poster_seen c.another-theirs.result.table_id p.general p.letters in
    let items : c.push.new.self.items ≡ ps ++ new ∷ [] = c.in_ok-push.ensures.items in
    let q = c.another-theirs.ensures.queue in
    let rule = c.another-theirs.ensures.rule in
    let theirs : p ≡ poster (length ps) [] = rule.1 ∙ ap (λ (v : Known). poster v.made []) c.loop.invariant.knows in
    let is : new ≡ poster_seen id (length ps) [] = (λ i. poster_seen ((q.1).0 i) ((theirs i).general) ((theirs i).letters)) in
    let len : length c.push.new.self.items ≡ length ps + 1 = ap length items ∙ length-append ps (new ∷ []) in
    record {
      pass = search rules;
      knows = rule.0 ∙ ap (λ (v : Known). collector v.letters (v.made + 1) v.back) c.loop.invariant.knows ∙ ap (λ (n : ℕ). collector [] n []) (sym len);
      count = omega arith;
      each = (λ g d. subst (λ (xs : List PosterSeen). g < length xs → slice_index_or xs g d ≡ poster_seen id g []) (sym items) (each_more id ps new is c.loop.invariant.each g d));
    }
