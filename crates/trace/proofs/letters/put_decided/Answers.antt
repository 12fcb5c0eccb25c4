use Rattle.std.proofs.Common.{ℕ, Option, ap}
use Rattle.trace.specs.Text.{text}
use Rattle.trace.specs.Lines.{decided_lines}
use Rattle.trace.proofs.WrittenLemmas.{wrote_none}
use Rattle.trace.proofs.letters.put_decided.Goals as goal

pub returns-in-None : goal.returns-in-None
returns-in-None g c = wrote_none _ (ap (λ (o : Option ℕ). text (decided_lines c.args.scenario.now c.args.general o)) c.in-None.is)
