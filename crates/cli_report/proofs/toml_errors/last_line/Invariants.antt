use Rattle.std.proofs.Common.{◌≡◌, ◌≤◌, ◌+◌, ◌∷◌, length}
use Rattle.text.specs.Stop.{feed}
use Rattle.text.specs.Parts.{left, left_len, pieces}
use Rattle.cli_report.specs.Assembly.{last_of}
use Rattle.cli_report.proofs.toml_errors.last_line.Given as goal

abbrev pub invariant-loop-rest : goal.invariant-loop-rest
invariant-loop-rest l = record {
  last : last_of (l.last ∷ left feed l.rest) ≡ last_of (pieces feed l.fn.bytes);
  counted : l.number + length (left feed l.rest) ≡ length (pieces feed l.fn.bytes);
  room : l.number + left_len l.rest ≤ length l.fn.bytes + 1;
}

abbrev pub decreases-loop-rest : goal.decreases-loop-rest
decreases-loop-rest l = left_len l.rest
