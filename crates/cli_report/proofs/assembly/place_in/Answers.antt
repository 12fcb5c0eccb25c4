use Rattle.std.proofs.Common.{◌≡◌, ap, arith, length}
use Rattle.text.specs.Stop.{semicolon}
use Rattle.text.specs.Parts.{before}
use Rattle.cli_report.specs.Lines.{trimmed}
use Rattle.cli_report.proofs.TrimLemmas.{length-before, length-trimmed}
use Rattle.cli_report.proofs.assembly.place_in.Goals as goal

pub returns-clause-inside : goal.returns-clause-inside
returns-clause-inside c =
    let same : length c.before_comment.result.now ≡ length (trimmed (before semicolon c.args.line.now)) = ap length c.before_comment.ensures in
    omega (arith, c.saturating_sub.ensures, same, length-trimmed (before semicolon c.args.line.now), length-before semicolon c.args.line.now)
