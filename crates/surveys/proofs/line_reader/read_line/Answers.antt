use Rattle.std.proofs.Common.{◌≡◌, ◌∙◌, Some, ap, subst, sym}
use Rattle.std.specs.Prelude.{IfOk}
use Rattle.surveys.specs.declared.finding.Finding.{Finding}
use Rattle.surveys.specs.Lines.{line_text}
use Rattle.surveys.proofs.line_reader.read_line.Goals as goal

pub returns-in-None-clause-back : goal.returns-in-None-clause-back
returns-in-None-clause-back c = c.in-None.ensures

pub returns-in-Some-clause-back : goal.returns-in-Some-clause-back
returns-in-Some-clause-back c = λ f h e. (
    let is : Some c.in-Some.finding ≡ Some f = c.in-Some.ensures f h e in
    let same : c.in-Some.finding ≡ f = cc in
    subst (λ (x : Finding). IfOk c.if_line.result (λ told. told ≡ Some x)) same (c.if_line.ensures.kept (e ∙ ap line_text (sym same))))
