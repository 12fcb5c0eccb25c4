use Rattle.std.proofs.Common.{subst}
use Rattle.std.proofs.lemmas.Result.{err_from_is_err_and}
use Rattle.surveys.specs.Plot.{Plot}
use Rattle.surveys.specs.Shrinking.{IsRefusedOf}
use Rattle.surveys.proofs.breach_search.breach_of.Goals as goal

pub returns-in_err-plot-2-clause-refused : goal.returns-in_err-plot-2-clause-refused
returns-in_err-plot-2-clause-refused c =
    let p = err_from_is_err_and c.from_residual-in_err-plot-2.result c.from_residual-in_err-plot-2.ensures.1 in
    rw (p.1, p.2) (λ other. subst (λ (x : Plot). IsRefusedOf x c.in_err-plot-2.field-0.0) c.in_ok-plot.ensures (c.in_err-plot-2.ensures.refused other))
