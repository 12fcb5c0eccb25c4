use Rattle.std.proofs.Common.{◌∙◌, sym}
use Rattle.std.specs.Prelude.{option_map}
use Rattle.text.specs.Parts.{lines_of}
use Rattle.cli_answers.proofs.WhyLemmas.{line_passed, line_taken}
use Rattle.cli_answers.proofs.refusals.why.Goals as goal

pub loop-first-preserved-then-is_why : goal.loop-first-preserved-then-is_why
loop-first-preserved-then-is_why c =
    line_taken c.in-Some.first.now (lines_of c.in-Some.behind.now) (lines_of c.loop-first.rest.now) (lines_of c.args.lines.now) (option_map (λ o. o.now) c.loop-first.last)
    (sym c.is_why.ensures ∙ c.if-is_why.true) c.in-Some.ensures.first c.loop-first.invariant

pub loop-first-preserved : goal.loop-first-preserved
loop-first-preserved c =
    line_passed c.in-Some.first.now (lines_of c.in-Some.behind.now) (lines_of c.loop-first.rest.now) (lines_of c.args.lines.now) (option_map (λ o. o.now) c.loop-first.last)
    (sym c.is_why.ensures ∙ c.if-is_why.false) c.in-Some.ensures.first c.loop-first.invariant
