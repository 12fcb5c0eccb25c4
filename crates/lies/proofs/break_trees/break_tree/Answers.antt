use Rattle.std.proofs.Common.{arith}
use Rattle.lies.specs.BreakTrees.{messages_of}
use Rattle.lies.proofs.BreakTreeLemmas.{all_full}
use Rattle.lies.proofs.break_trees.break_tree.Goals as goal

pub returns : goal.returns
returns g c =
    all_full (messages_of (g.C.Combine.combined c.args.rule.now) c.args.generals c.args.bound c.args.commander c.args.found.now) c.loop-size.size c.args.generals c.args.bound c.args.commander c.args.general c.loop-size.tree
    c.loop-size.invariant (omega (arith, c.loop-size-test.false, c.loop-size.auto.size-end)) c.requires.within.present c.requires.general c.requires.lieutenant
