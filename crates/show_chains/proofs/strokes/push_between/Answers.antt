use Rattle.std.proofs.Common.{List, ◌≡◌, ◌++◌, ◌∙◌, ap}
use Rattle.signed.specs.Chains.{Chain}
use Rattle.show_chains.specs.Owed.{owed_to, sent_to}
use Rattle.show_chains.specs.Strokes.{told_between}
use Rattle.show_chains.proofs.strokes.push_between.Goals as goal

pub returns : goal.returns
returns c =
    let a = c.args in
    let old = a.list.now.items in
    let sent : c.as_slice.result.now ≡ sent_to a.chronicle.now a.round a.general a.receiver = c.as_slice.ensures.value ∙ c.in_ok-sent.ensures in
    let owed : c.as_slice-2.result.now ≡ owed_to a.chronicle.now a.round a.general a.receiver = c.as_slice-2.ensures.value ∙ c.in_ok-owed.ensures in
    c.in_ok-push_told.ensures
    ∙ (ap (λ (xs : List Chain). old ++ told_between a.round a.receiver a.general xs c.as_slice-2.result.now) sent
    ∙ ap (λ (ys : List Chain). old ++ told_between a.round a.receiver a.general (sent_to a.chronicle.now a.round a.general a.receiver) ys) owed)
