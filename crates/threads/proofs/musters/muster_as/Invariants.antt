use Rattle.threads.proofs.musters.muster_as.Given as goal

-- The name `J` is for the board that was just made.
abbrev pub ghosts-mustered-J-Room : goal.ghosts-mustered-J-Room
ghosts-mustered-J-Room g a = record { book = a.unshared.book; opening = a.unshared.opening }

abbrev pub ghosts-mustered-J-Ledger : goal.ghosts-mustered-J-Ledger
ghosts-mustered-J-Ledger g a = record { name = a.unshared.name; parts = a.unshared.parts }
