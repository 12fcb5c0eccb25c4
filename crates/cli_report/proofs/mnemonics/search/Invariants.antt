use Rattle.std.proofs.Common.{◌≡◌, drop, map}
use Rattle.cli_report.specs.Mnemonics.{first_taken}
use Rattle.cli_report.proofs.mnemonics.search.Given as goal

abbrev pub invariant-loop-name : goal.invariant-loop-name
invariant-loop-name l = first_taken l.word (map (λ row. (row.0.now, row.1)) (drop l.name-index l.rows)) ≡ first_taken l.word (map (λ row. (row.0.now, row.1)) l.rows)
