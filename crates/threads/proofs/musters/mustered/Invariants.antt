use Rattle.round.specs.Letters.{Letter}
use Rattle.threads.specs.Served.{IsGated}
use Rattle.threads.proofs.musters.mustered.Given as goal

-- The claim about letters is that their accesses have passed this gate.
abbrev pub ghosts-by_board : goal.ghosts-by_board
ghosts-by_board g a = record { holds = λ (l : Letter). IsGated (g.G.Gate.passed a.gate.now) l }
