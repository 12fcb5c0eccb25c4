use Rattle.std.proofs.Common.{◌≡◌, ◌++◌, drop}
use Rattle.std.specs.String.{string_bytes}
use Rattle.html.specs.Sections.{fitted_sections}
use Rattle.html.proofs.sections.put_fitted.Given as goal

abbrev pub invariant-loop-section : goal.invariant-loop-section
invariant-loop-section l =
    string_bytes l.out ++ fitted_sections l.left (drop l.section-index l.sections)
    ≡ string_bytes l.fn.out ++ fitted_sections l.fn.left l.sections
