use Rattle.std.proofs.Common.{◌++◌, ◌∷◌, ◌∙◌, ap}
use Rattle.trace.specs.Text.{place}
use Rattle.trace.specs.Lines.{repeated}
use Rattle.trace.proofs.Repeating.{told_alike}
use Rattle.trace.proofs.line_buffer.LineBuffer.add_alike.Goals as goal

pub returns-clause-added : goal.returns-clause-added
returns-clause-added c =
    told_alike c.args.times c.args.order c.args.self.now _ (c.with_alike-self-inside.ensures.bytes ∙ ap (λ t. t ++ repeated c.args.times (32 ∷ place c.args.order)) c.self.view_is)
