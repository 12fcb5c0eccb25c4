use Rattle.threads.specs.Served.{told_in}
use Rattle.threads.proofs.resident.GeneralThread.do_task.Given as goal

-- The session names the accesses in the letters posted before, and what the gate guarantees.
abbrev pub ghosts-letter : goal.ghosts-letter
ghosts-letter g a = record { before = told_in a.poster.now.posted; passed = g.G.Gate.passed a.self.now.gate.now }
