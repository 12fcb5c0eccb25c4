use Rattle.std.proofs.Common.{arith}
use Rattle.tree.proofs.Levels.{levels-none, one-more, whole-silent}
use Rattle.tree.proofs.tree.Tree.new.Goals as goal

pub loop-size-init : goal.loop-size-init
loop-size-init c = levels-none c.args.generals c.args.commander c.args.general _ c.in_ok-levels.levels.items c.in_ok-levels.ensures.items

pub loop-size-preserved : goal.loop-size-preserved
loop-size-preserved c = one-more c.args.generals c.args.commander c.args.general c.loop-size.levels.items c.push.new.self.items c.loop-size.size c.count.result c.in_ok-new.field-0 c.loop-size.invariant c.in_ok-push.ensures.items c.in_ok-new.ensures c.count.ensures

pub invariant_of-result : goal.invariant_of-result
invariant_of-result c =
    whole-silent (record { generals = c.args.generals; commander = c.args.commander; general = c.args.general }) c.args.bound c.loop-size.size c.loop-size.levels.items
    (record { generals = c.requires.few; commander = c.requires.commander; general = c.requires.general; lieutenant = c.requires.lieutenant }) c.requires.bound (let h = c.loop-size-test.false in let g = c.loop-size.auto.size-end in omega arith) c.loop-size.invariant
