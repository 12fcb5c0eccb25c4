use Rattle.std.proofs.Common.{ℕ, ◌+◌, ◌<◌, ◌≤◌, ◌∙◌, ap, subst, length, take, arith}
use Rattle.text.specs.Parts.{until}
use Rattle.text.specs.Stop.{feed}
use Rattle.surveys.proofs.PartLemmas.{unfed_all, whole_line}
use Rattle.surveys.proofs.part_reader.first_line.Goals as goal

pub returns-then-end-bytes-clause-line : goal.returns-then-end-bytes-clause-line
returns-then-end-bytes-clause-line c =
    let bytes = c.args.bytes.now in
    let is = c.find-end.ensures.found in
    let lt : until feed bytes < length bytes = subst (λ (n : ℕ). n < length bytes) is c.if-end-bytes.true in
    whole_line bytes c.split_at.result.0.now (c.split_at.ensures.front ∙ ap (λ (n : ℕ). take (n + 1) bytes) is) lt

pub returns-clause-none : goal.returns-clause-none
returns-clause-none c =
    let bytes = c.args.bytes.now in
    let is = c.find-end.ensures.found in
    let past = c.if-end-bytes.false in
    let le : length bytes ≤ until feed bytes = omega arith in
    unfed_all bytes le
