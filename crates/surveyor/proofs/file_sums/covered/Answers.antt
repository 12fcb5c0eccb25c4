use Rattle.std.proofs.Common.{List, ◌∙◌, ap, length, sym}
use Rattle.surveys.specs.declared.stretch.Stretch.{Stretch}
use Rattle.surveyor.proofs.CoverLemmas.{status_by}
use Rattle.surveyor.proofs.file_sums.covered.Goals as goal

pub returns-clause-covered : goal.returns-clause-covered
returns-clause-covered g c =
    let holes = ap (λ (l : List Stretch). length l) c.as_slice.ensures.value in
    let doubles = ap (λ (l : List Stretch). length l) c.as_slice-2.ensures.value in
    status_by c.args.seeds c.args.all.now c.in-Some.first c.in-Some.last c.status_of-status.result c.asked_for-span.result c.in_ok-holes.holes.items c.in_ok-doubles.doubles.items c.requires c.asked_for-span.ensures c.in-Some.is
    c.in_ok-holes.ensures.holes c.in_ok-holes.ensures.apart c.in_ok-doubles.ensures.doubles c.in_ok-doubles.ensures.apart
    (λ z. (let e = c.status_of-status.ensures.well z in (sym holes ∙ e.0, sym doubles ∙ e.1)))
    (λ h d. c.status_of-status.ensures.none (holes ∙ h) (doubles ∙ d))
    c.status_of-status.ensures.ill
