use Rattle.show_page.proofs.CallLemmas.{AreNamed}
use Rattle.show_page.proofs.calls.statements.Given as goal

-- The units so far have their texts.
abbrev pub invariant-loop-unit : goal.invariant-loop-unit
invariant-loop-unit l = AreNamed l.program l.statements.items l.unit
