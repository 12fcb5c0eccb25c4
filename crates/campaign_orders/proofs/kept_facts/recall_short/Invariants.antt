use Rattle.std.proofs.Common.{◌≡◌, ◌<◌, ◌≤◌, ℕ, List, Some, length}
use Rattle.insn.specs.declared.insn.Insn.{Insn}
use Rattle.round.specs.Scenario.{program_of}
use Rattle.campaign_orders.proofs.kept_facts.recall_short.Given as goal

abbrev pub invariant-loop-general : goal.invariant-loop-general
invariant-loop-general l = (g : ℕ) → g < l.general → (program : List Insn) → program_of l.scenario g ≡ Some program → length program ≤ 4096
