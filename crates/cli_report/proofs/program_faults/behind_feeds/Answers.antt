use Rattle.std.proofs.Common.{◌≡◌, ◌+◌, ◌-◌, arith, suc}
use Rattle.cli_report.proofs.program_faults.behind_feeds.Goals as goal

pub loop-fed-preserved : goal.loop-fed-preserved
loop-fed-preserved c =
    let e : c.args.number - c.loop-fed.fed ≡ suc (c.args.number - (c.loop-fed.fed + 1)) = omega (arith, c.loop-fed-test.true) in
    rw c.behind_feed-rest.ensures (rw e at c.loop-fed.invariant)
