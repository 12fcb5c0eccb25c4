use Rattle.std.proofs.Common.{◌≡◌, drop}
use Rattle.html.specs.Sections.{left_by}
use Rattle.html.proofs.sections.left_by.Given as goal

abbrev pub invariant-loop-section : goal.invariant-loop-section
invariant-loop-section l = left_by l.left (drop l.section-index l.sections) ≡ left_by l.room l.sections
