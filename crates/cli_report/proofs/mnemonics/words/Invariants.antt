use Rattle.std.proofs.Common.{◌≡◌, map, take}
use Rattle.cli_report.proofs.mnemonics.words.Given as goal

abbrev pub invariant-loop-word : goal.invariant-loop-word
invariant-loop-word l = map (λ word. word.now) l.words.items ≡ map (λ row. row.0.now) (take l.word-index l.rows)
