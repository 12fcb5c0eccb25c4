use Rattle.std.proofs.Common.{◌≡◌, ◌≤◌, ◌∙◌, arith, length}
use Rattle.std.proofs.lemmas.Result.{IfOk-weaker}
use Rattle.cli_report.proofs.toml_errors.not_toml.Goals as goal

pub returns : goal.returns
returns c =
    let same : c.as_bytes.result.now ≡ c.args.text.now = c.as_bytes.ensures.value ∙ c.in-Ok.ensures.cases.0 in
    let few : c.in-Err.error.end ≤ length c.args.text.now = rw c.in-Ok.ensures.cases.0 at c.in-Err.ensures.span.1 in
    IfOk-weaker c.span_told.result _ _
    (λ told is utf8 none. record {
      message = c.message.result.now;
      start = c.in_ok-start.start;
      end = c.in_ok-start.end;
      ordered = omega (arith, c.in_ok-start.ensures.span.0, c.in_ok-start.ensures.span.1, c.in-Err.ensures.span.0);
      within = omega (arith, c.in_ok-start.ensures.span.1, few);
      is = rw same at is;
    })
    c.span_told.ensures
