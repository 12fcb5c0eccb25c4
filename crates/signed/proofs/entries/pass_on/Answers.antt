-- One more chain is considered.
use Rattle.std.proofs.Common.{arith, refl, ◌∙◌}
use Rattle.std.specs.Prelude.{slice_get}
use Rattle.signed.proofs.Onward.{passing_first, passing_last, chain_at, uncounted, known_already, passed_on_also, some_there}
use Rattle.signed.proofs.entries.pass_on.Goals as goal
use Rattle.signed.proofs.entries.pass_on.Goals.{in-Some+then-counts+then-not-is_among, in-Some+else-counts, else-counts-via-then-counts+else-not-is_among, else-counts-via-else-counts, in_default}

pub loop-place-init : goal.loop-place-init
loop-place-init c = record {
  relay = refl;
  rows = refl;
  left = λ seen first few.
      rw c.earlier-place.ensures
      (passing_first c.args.generals c.args.rounds c.args.general c.args.held.now.earlier c.args.held.now.chains c.args.outbox.now.relay seen c.args.outbox.now.entries c.args.before.items first few);
}

pub loop-place-preserved : goal.loop-place-preserved
loop-place-preserved c =
    let l = c.loop-place in
    let a = c.args in
    elim c.match-get.branch [
      | in-Some+then-counts+then-not-is_among w ↦ rw (w.outbox-is, w.orders-is) (record {
        relay = w.pass-entered.ensures.relay ∙ l.invariant.relay;
        rows = w.pass-entered.ensures.rows ∙ l.invariant.rows;
        left = λ seen first few.
            passed_on_also a.generals a.rounds a.general a.held.now.earlier a.held.now.chains a.outbox.now.relay seen a.outbox.now.entries l.place l.orders.items l.outbox.entries w.in-Some.chain.now
            w.counts.result w.is_among.result w.as_slice.result.now w.add.new.orders.items w.order.result w.order-then-not-is_among.result w.receivers.result l.outbox.relay w.pass-entered.new.self.entries
            (chain_at c.get.result w.in-Some.chain (slice_get a.held.now.chains l.place) c.get.ensures w.in-Some.is) w.counts.ensures w.if-counts.true
            w.is_among.ensures w.as_slice.ensures.value w.order.ensures w.if-not-is_among.true l.invariant.relay w.receivers.ensures w.pass-entered.ensures.entries w.order-then-not-is_among.ensures
            w.add.ensures few (l.invariant.left seen first few);
      })
      | in-Some+else-counts w ↦ elim w.else-counts.branch [
        | else-counts-via-then-counts+else-not-is_among w2 ↦ rw (w.outbox-is, w.orders-is) (record {
          relay = l.invariant.relay;
          rows = l.invariant.rows;
          left = λ seen first few.
              known_already a.generals a.rounds a.general a.held.now.earlier a.held.now.chains a.outbox.now.relay seen a.outbox.now.entries l.place l.orders.items l.outbox.entries w.in-Some.chain.now
              w2.is_among.result w2.as_slice.result.now w2.order.result (chain_at c.get.result w.in-Some.chain (slice_get a.held.now.chains l.place) c.get.ensures w.in-Some.is)
              w2.is_among.ensures w2.as_slice.ensures.value w2.order.ensures w2.if-not-is_among.false (l.invariant.left seen first few);
        })
        | else-counts-via-else-counts w2 ↦ rw (w.outbox-is, w.orders-is) (record {
          relay = l.invariant.relay;
          rows = l.invariant.rows;
          left = λ seen first few.
              uncounted a.generals a.rounds a.general a.held.now.earlier a.held.now.chains a.outbox.now.relay seen a.outbox.now.entries l.place l.orders.items l.outbox.entries w.in-Some.chain.now
              w.counts.result (chain_at c.get.result w.in-Some.chain (slice_get a.held.now.chains l.place) c.get.ensures w.in-Some.is)
              w.counts.ensures w2.if-counts.false (l.invariant.left seen first few);
        })
      ]
      | in_default w ↦ absurd (some_there c.get.result a.held.now.chains l.place c.get.ensures w.in_default.is (let t = c.loop-place-test.true in let e = c.len-place-end.ensures in omega arith))
    ]

pub returns-clause-entries : goal.returns-clause-entries
returns-clause-entries c = λ seen first few.
    passing_last c.args.generals c.args.rounds c.args.general c.args.held.now.earlier c.args.held.now.chains c.args.outbox.now.relay seen c.args.outbox.now.entries c.loop-place.place c.loop-place.orders.items c.loop-place.outbox.entries
    (let a = c.loop-place-test.false in let b = c.len-place-end.ensures in omega arith) (c.loop-place.invariant.left seen first few)
