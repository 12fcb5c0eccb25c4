use Rattle.std.proofs.Common.{◌+◌, ◌≤◌, List, Option, arith, subst}
use Rattle.surveys.specs.declared.breach.Breach.{Breach}
use Rattle.surveyor.specs.Kept.{Gains, breach_files}
use Rattle.surveyor.proofs.LeastLemmas.{and_more}
use Rattle.surveyor.proofs.minimal_campaigns.least_left.Goals as goal

pub loop-next-preserved : goal.loop-next-preserved
loop-next-preserved g c =
    let s = c.args.asked.now in
    let a = c.min-until.ensures in
    let b = c.saturating_add.ensures in
    let t = c.loop-next-test.true in
    let m = c.at_once-many.ensures.least in
    let i = c.requires.inside in
    let f = c.loop-next.invariant.from in
    let low : c.loop-next.next ≤ c.min-until.result = omega arith in
    let high : c.min-until.result ≤ s.last + 1 = omega arith in
    and_more s c.args.family.now (g.K.Keeper.files c.args.keeper.now) (g.K.Keeper.files c.loop-next.keeper) (g.K.Keeper.files c.keep_all.new.keeper) c.loop-next.next c.min-until.result c.loop-next.so_far c.least.result c.better-so_far.result c.in-Ok.found.items
    low high c.loop-next.invariant c.in-Ok.ensures.shrunk c.least.ensures c.better-so_far.ensures
    (subst (λ (l : List (Option Breach)). Gains (g.K.Keeper.files c.loop-next.keeper) (g.K.Keeper.files c.keep_all.new.keeper) (breach_files s.keep l)) c.as_slice.ensures.value c.in_ok-keep_all.ensures.kept)
