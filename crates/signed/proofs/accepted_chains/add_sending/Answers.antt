use Rattle.std.proofs.Common.{List, map, take, sym, ◌∙◌, arith}
use Rattle.signed.specs.Chains.{Chain}
use Rattle.signed.specs.Entries.{received}
use Rattle.signed.specs.Gathered.{gathered}
use Rattle.signed.specs.Sending.{dispatch_of, lent}
use Rattle.signed.proofs.Gathering.{one_gathered, came_counts, came_idle, came_not}
use Rattle.signed.proofs.accepted_chains.add_sending.Goals as goal
use Rattle.signed.proofs.accepted_chains.add_sending.Goals.{then-has+then-counts+in_ok-add, else-has, else-has-via-then-has+else-counts, else-has-via-else-has}

pub loop-chain-preserved : goal.loop-chain-preserved
loop-chain-preserved c =
    let k = c.args.round in
    let p = c.args.general in
    let x = c.loop-chain-item.result in
    let before : List Chain = gathered k p (lent c.args.chains.now.items) (received p (map dispatch_of (take c.loop-chain.chain-index c.args.sending.now))) in
    let more = one_gathered k p (lent c.args.chains.now.items) c.args.sending.now c.loop-chain.chain-index x (omega arith) (omega arith) c.loop-chain-item.is in
    elim c.if-has.branch [
      | then-has+then-counts+in_ok-add w ↦
          rw (w.chains-is, w.in_ok-add.ensures, c.loop-chain.invariant) (sym (more ∙ came_counts k p before x (sym c.has.ensures ∙ w.if-has.true) (sym w.counts.ensures ∙ w.if-counts.true)))
      | else-has w ↦ elim w.else-has.branch [
        | else-has-via-then-has+else-counts v ↦
            rw (w.chains-is, c.loop-chain.invariant) (sym (more ∙ came_idle k p before x (sym c.has.ensures ∙ v.if-has.true) (sym v.counts.ensures ∙ v.if-counts.false)))
        | else-has-via-else-has v ↦
            rw (w.chains-is, c.loop-chain.invariant) (sym (more ∙ came_not k p before x (sym c.has.ensures ∙ v.if-has.false)))
      ]
    ]
