use Rattle.std.proofs.Common.{length}
use Rattle.surveys.proofs.PartLemmas.{IsOn}
use Rattle.surveys.proofs.part_reader.add_rows.Given as goal

abbrev pub invariant-loop-rest : goal.invariant-loop-rest
invariant-loop-rest l = IsOn l.head l.lines l.rest l.seeds.0 l.seeds.1 l.number l.initial.findings.items l.findings.items

abbrev pub decreases-loop-rest : goal.decreases-loop-rest
decreases-loop-rest l = length l.rest
