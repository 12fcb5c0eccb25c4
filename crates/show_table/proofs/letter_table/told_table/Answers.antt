use Rattle.std.proofs.Common.{subst, sym}
use Rattle.round.specs.Scenario.{Scenario}
use Rattle.round.specs.Told.{WasTold}
use Rattle.show_table.proofs.Trees.{filled_from, told_from, within_from}
use Rattle.show_table.proofs.letter_table.told_table.Goals as goal

pub of-requires : goal.of-requires
of-requires c = record {
  within = within_from c.scenario-scenario.result.now c.generals.result c.bound.result c.commander-commander.result c.recall.ensures c.generals.ensures.same c.bound.ensures.same c.commander-commander.ensures.same;
  filled = filled_from c.scenario-scenario.result.now c.args.chronicle.now.letters c.args.told.now c.trees.result.now c.generals.result c.bound.result c.commander-commander.result
      c.recall.ensures (subst (λ (s : Scenario). WasTold s c.args.chronicle.now.letters c.args.told.now) (sym c.scenario-scenario.ensures) c.requires.told)
      c.trees.ensures c.generals.ensures.same c.bound.ensures.same c.commander-commander.ensures.same;
}

pub returns : goal.returns
returns c =
    told_from c.args.chronicle.now c.args.told.now c.scenario-scenario.result.now c.trees.result.now c.generals.result c.bound.result c.commander-commander.result c.rule.result c.of.result
    c.recall.ensures c.scenario-scenario.ensures c.trees.ensures c.generals.ensures.same c.bound.ensures.same c.commander-commander.ensures.same c.rule.ensures c.requires.told c.of.ensures
