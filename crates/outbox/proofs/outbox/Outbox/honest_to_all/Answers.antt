-- One more row is written, and in the end all rows.
use Rattle.std.proofs.Common.{ℕ, ◌≡◌, ◌<◌, ◌≤◌, [], refl, ap, ◌∙◌, length, get_or, set, arith}
use Rattle.semantics.specs.Outbox.{taken_value}
use Rattle.outbox.specs.Rows.{RowOrders, all_put}
use Rattle.outbox.specs.Contents.{entries_of, relay_of}
use Rattle.outbox.proofs.Outcomes.{same_relay, rows_few}
use Rattle.outbox.proofs.Single.{same_default}
use Rattle.outbox.proofs.Throughout.{all_step, all_stand, all_done, all_long}
use Rattle.outbox.proofs.outbox.Outbox.honest_to_all.Goals as goal

pub invariant_of-self : goal.invariant_of-self
invariant_of-self c = all_stand (relay_of c.self.inside.shape c.self.inside.signing) (relay_of c.loop-rank.self-inside.shape c.loop-rank.self-inside.signing) (taken_value c.args.context.now) c.loop-rank.rank c.self.inside.rows c.loop-rank.self-inside.rows c.self.invariant (same_relay c.loop-rank.invariant.shape c.loop-rank.invariant.signing) c.loop-rank.invariant.rows

pub taken_value-requires : goal.taken_value-requires
taken_value-requires c =
    let few : length c.self.inside.rows ≤ 990 = rows_few (relay_of c.self.inside.shape c.self.inside.signing) c.self.inside.rows c.self.invariant in
    let n = c.len-labels.ensures in
    omega arith

pub put_all-requires : goal.put_all-requires
put_all-requires c =
    let n = c.len-labels.ensures in
    let long : length c.loop-rank.self-inside.rows ≡ length c.self.inside.rows = ap length c.loop-rank.invariant.rows ∙ all_long (taken_value c.args.context.now) 0 c.loop-rank.rank c.self.inside.rows in
    omega arith

pub loop-rank-preserved : goal.loop-rank-preserved
loop-rank-preserved c =
    let f : ℕ → ℕ = taken_value c.args.context.now in
    let rank : ℕ = c.loop-rank.rank in
    let row : RowOrders = get_or c.loop-rank.self-inside.rows rank [] in
    let inside : rank < length c.self.inside.rows = let n = c.len-labels.ensures in omega arith in
    let long : length c.loop-rank.self-inside.rows ≡ length c.self.inside.rows = ap length c.loop-rank.invariant.rows ∙ all_long f 0 rank c.self.inside.rows in
    record {
      shape = c.loop-rank.invariant.shape;
      signing = c.loop-rank.invariant.signing;
      rows = c.put_all.ensures
          ∙ (ap (λ (v : ℕ). set c.loop-rank.self-inside.rows rank (all_put v row)) c.taken_value.ensures
          ∙ all_step f rank c.self.inside.rows c.loop-rank.self-inside.rows row (all_put (f rank) row) c.loop-rank.invariant.rows inside (same_default c.loop-rank.self-inside.rows rank [] row (omega arith)) refl);
    }

pub returns-clause-rows : goal.returns-clause-rows
returns-clause-rows c =
    let all : c.loop-rank.rank ≡ length c.self.inside.rows = let n = c.len-labels.ensures in omega arith in
    all_done c.args.self.now (relay_of c.self.inside.shape c.self.inside.signing) (entries_of c.self.inside.signing) (taken_value c.args.context.now) c.loop-rank.rank c.self.inside.rows c.loop-rank.self-inside.rows c.self.view_is c.self.invariant all c.loop-rank.invariant.rows
