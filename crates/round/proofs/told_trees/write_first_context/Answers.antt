-- In the first round a lieutenant has received nothing.
use Rattle.std.proofs.Common.{◌∙◌, ℕ, Ok, sym}
use Rattle.round.proofs.Values.{opening_told}
use Rattle.round.proofs.told_trees.write_first_context.Goals as goal

pub returns : goal.returns
returns c = opening_told {E = ℕ} (Ok c.write_context-2.new.bytes) c.args.scenario.now c.args.general c.bound-bound.result c.shape-shape.result (λ e. c.if-general-commander.false (e ∙ sym c.commander.ensures.same)) c.shape-shape.ensures.same c.bound-bound.ensures.same c.write_context-2.ensures.bytes
