-- The context after all rounds that were delivered.
use Rattle.std.proofs.Common.{ap}
use Rattle.round.specs.Told.{ToldSeen}
use Rattle.round.proofs.Values.{all_told, all_words}
use Rattle.round.proofs.told_trees.Received.context.Goals as goal

pub returns-clause-context : goal.returns-clause-context
returns-clause-context c = all_told c.context_after.result c.args.scenario.now c.args.self.now c.args.general c.self.inside.rounds (ap (λ (h : ToldSeen). h.rounds) c.self.view_is) c.context_after.ensures.context

pub returns-clause-words : goal.returns-clause-words
returns-clause-words c = all_words c.context_after.result c.args.scenario.now c.args.self.now c.args.general c.self.inside.rounds (ap (λ (h : ToldSeen). h.rounds) c.self.view_is) c.context_after.ensures.words
