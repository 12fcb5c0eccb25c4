use Rattle.std.proofs.Common.{◌<◌, length, arith}
use Rattle.std.proofs.lemmas.Grind.{common_steps}
use Rattle.asm.proofs.LineLemmas.{cut_line, one_line}
use Rattle.asm.proofs.partial.lines.first_line.Goals as goal

pub returns-in-Some-clause-first : goal.returns-in-Some-clause-first
returns-in-Some-clause-first c = cut_line c.args.text.now c.in-Some.cut c.in-Some.ensures.cases

pub returns-in-None-clause-first : goal.returns-in-None-clause-first
returns-in-None-clause-first c =
    let some : 0 < length c.args.text.now = grind (arith, common_steps) in
    one_line c.args.text.now some c.in-None.ensures.cases
