-- One more row is written.
use Rattle.std.proofs.Common.{◌≡◌, ◌≢◌, ◌<◌, ◌≤◌, ◌+◌, ℕ, sym, ap, ◌∙◌, length, get_or, arith, cond}
use Rattle.std.proofs.lemmas.List.{length-set, get_or-set_other}
use Rattle.outbox.specs.Rows.{receivers_in, put_in_row, found_first}
use Rattle.label.specs.Labels.{on}
use Rattle.outbox.proofs.Whole.{found_few}
use Rattle.outbox.proofs.Outcomes.{sweep_step, count_step}
use Rattle.outbox.proofs.rows.put_in_each.Goals as goal
use Rattle.outbox.proofs.rows.put_in_each.Goals.{then-put, else-put}

pub overflow_add-set : goal.overflow_add-set
overflow_add-set g c =
    let found : found_first c.args.receiver c.loop-rank.rank c.args.labels.now ≤ c.loop-rank.rank = found_few c.args.receiver c.loop-rank.rank c.args.labels.now in
    omega arith

pub loop-rank-preserved : goal.loop-rank-preserved
loop-rank-preserved g c =
    let inside : c.loop-rank.rank < length c.args.labels.now = omega arith in
    let here : c.loop-rank.rank ≤ c.loop-rank.rank = omega arith in
    let row = c.index-labels-rank.result in
    let at : row ≡ get_or c.loop-rank.labels c.loop-rank.rank row = c.index-labels-rank.is in
    record {
      long = length-set c.loop-rank.labels c.loop-rank.rank c.put.new.self ∙ c.loop-rank.invariant.long;
      rows = λ f tells.
          sweep_step c.args.receiver f c.loop-rank.rank c.args.labels.now c.loop-rank.labels row c.put.new.self (c.loop-rank.invariant.rows f tells) inside at
          (c.put.ensures.row ∙ ap (put_in_row c.args.receiver c.order.result) (sym at) ∙ ap (λ v. put_in_row c.args.receiver v row) (tells c.loop-rank.rank c.order.result c.order.ensures));
      rest = λ k d le.
          let apart : k ≢ c.loop-rank.rank = λ e. omega arith in
          let behind : c.loop-rank.rank ≤ k = omega arith in
          get_or-set_other c.loop-rank.labels c.loop-rank.rank k c.put.new.self d apart ∙ c.loop-rank.invariant.rest k d behind;
      set =
          (elim c.if-put.branch [
            | then-put w ↦ w.set-is ∙ ap (λ b. c.loop-rank.set + cond {A = ℕ} b 1 0) (sym w.if-put.true)
            | else-put w ↦ (w.set-is ∙ omega arith) ∙ ap (λ b. c.loop-rank.set + cond {A = ℕ} b 1 0) (sym w.if-put.false)
          ])
          ∙ count_step c.args.receiver c.loop-rank.rank c.loop-rank.set c.args.labels.now row c.put.result (at ∙ c.loop-rank.invariant.rest c.loop-rank.rank row here) inside (c.put.ensures.there ∙ ap (λ x. on (receivers_in x) c.args.receiver) (sym at)) c.loop-rank.invariant.set;
    }
