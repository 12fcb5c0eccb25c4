use Rattle.std.proofs.Common.{arith}
use Rattle.bounds.proofs.StoryTreeLemmas.{story_full}
use Rattle.bounds.proofs.story_trees.story_tree.Goals as goal

pub returns : goal.returns
returns c =
    story_full c.args.story c.loop-size.size c.args.generals c.args.bound c.args.commander c.args.general c.loop-size.tree
    c.loop-size.invariant (omega (arith, c.loop-size-test.false, c.loop-size.auto.size-end)) c.requires.within.present c.requires.general c.requires.lieutenant
