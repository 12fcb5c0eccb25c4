use denote.Shadow.{shadow}
use denote.Text.{Utf8}
use Rattle.surveyor.proofs.SumLemmas.{AreTold}
use Rattle.surveyor.proofs.file_sums.told.Given as goal

abbrev pub invariant-loop-name : goal.invariant-loop-name
invariant-loop-name l = record {
  told : AreTold l.asked l.parts.head.items l.first l.name-index l.parts.findings.items;
  text : shadow (Utf8 l.first);
}
