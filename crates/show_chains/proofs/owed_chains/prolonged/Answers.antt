use Rattle.std.proofs.Common.{List, ◌≡◌, ◌+◌, ◌∙◌, ap, map, arith}
use Rattle.std.specs.Borrow.{Bor}
use Rattle.std.proofs.lemmas.Result.{IfOk-weaker}
use Rattle.signed.specs.Accepted.{added}
use Rattle.signed.specs.Chains.{Chain, signed_also}
use Rattle.signed.specs.Sending.{lent}
use Rattle.signed.specs.Sent.{delivered, sent_in}
use Rattle.show_chains.proofs.OwedLemmas.{added_behind, fewer_before}
use Rattle.show_chains.proofs.owed_chains.prolonged.Goals as goal

pub split_at-requires : goal.split_at-requires
split_at-requires c =
    let a = c.args in
    let s = a.chronicle.now.scenario in
    let S = delivered (sent_in s a.chronicle.now.letters) in
    fewer_before s.generals S a.rounds (a.rounds + 1) a.general c.as_slice-before.result.now c.as_slice.result.now (omega arith)
    (ap (λ (xs : List (Bor Chain)). lent xs) c.as_slice-before.ensures.value ∙ c.in_ok-earlier.ensures)
    (ap (λ (xs : List (Bor Chain)). lent xs) c.as_slice.ensures.value ∙ c.in_ok-chains.ensures)

pub returns : goal.returns
returns c =
    let a = c.args in
    let s = a.chronicle.now.scenario in
    let S = delivered (sent_in s a.chronicle.now.letters) in
    let also = λ (xs : List Chain). map (λ ch. signed_also ch a.general) xs in
    let is : lent c.split_at.result.1.now ≡ added s.generals S a.rounds a.general =
    ap (λ (xs : List (Bor Chain)). lent xs) c.split_at.ensures.back
    ∙ added_behind s.generals S a.rounds (a.rounds + 1) a.general c.as_slice-before.result.now c.as_slice.result.now (omega arith)
    (ap (λ (xs : List (Bor Chain)). lent xs) c.as_slice-before.ensures.value ∙ c.in_ok-earlier.ensures)
    (ap (λ (xs : List (Bor Chain)). lent xs) c.as_slice.ensures.value ∙ c.in_ok-chains.ensures) in
    IfOk-weaker c.signed_also.result _ _ (λ v e. e ∙ ap also is) c.signed_also.ensures
