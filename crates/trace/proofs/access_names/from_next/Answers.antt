use Rattle.std.proofs.Common.{◌∙◌, ap, map}
use Rattle.text.specs.Stop.{space}
use Rattle.text.specs.Parts.{pieces}
use Rattle.trace.specs.Names.{named}
use Rattle.trace.specs.Marks.{lines_left}
use Rattle.trace.proofs.PassingLemmas.{names_later, names_no_one}
use Rattle.trace.proofs.access_names.from_next.Goals as goal

pub returns-in_err-place-clause-names : goal.returns-in_err-place-clause-names
returns-in_err-place-clause-names c =
    ap (λ rest. named (map (pieces space) (lines_left rest))) c.from_residual.ensures ∙ names_no_one c.args.text.now c.in_err-place.ensures

pub returns-in-Some-clause-names : goal.returns-in-Some-clause-names
returns-in-Some-clause-names c =
    let first = c.in_ok-place.ensures.0 in
    let feed = c.in-Some.ensures in
    names_later c.args.text.now c.in_ok-place.place c.in-Some.end first.high first.before feed.0.high feed.1
