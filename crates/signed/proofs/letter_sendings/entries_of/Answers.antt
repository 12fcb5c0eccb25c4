-- The entries are those of the general's first letter, or none.
use Rattle.std.proofs.Common.{◌≡◌, ◌∙◌, length, sym, ap, None, arith}
use Rattle.std.proofs.lemmas.Option.{slice_get_past}
use Rattle.round.specs.Letters.{Letter, letter_of}
use Rattle.round.proofs.Senders.{first_letter, none_more, none_left}
use Rattle.signed.specs.Logs.{entries_in}
use Rattle.signed.proofs.letter_sendings.entries_of.Goals as goal

pub returns-then-letter-general-clause-same : goal.returns-then-letter-general-clause-same
returns-then-letter-general-clause-same c =
    let row = c.args.letters.now in
    let i = c.loop-index.index in
    let l = c.index-letters-index.result in
    c.entries.ensures.same
    ∙ (ap (λ (y : Letter). y.outbox.entries) c.letter.view_is
    ∙ ap entries_in (sym (first_letter row c.args.general i l l c.loop-index-test.true c.index-letters-index.is (ap (λ (y : Letter). y.general) (sym c.letter.view_is) ∙ c.if-letter-general.true) c.loop-index.invariant)))

pub loop-index-preserved : goal.loop-index-preserved
loop-index-preserved c =
    none_more c.args.letters.now c.args.general c.loop-index.index c.index-letters-index.result c.index-letters-index.result c.loop-index-test.true c.index-letters-index.is
    (λ e. c.if-letter-general.false (ap (λ (y : Letter). y.general) c.letter.view_is ∙ e)) c.loop-index.invariant

pub returns-clause-same : goal.returns-clause-same
returns-clause-same c =
    let row = c.args.letters.now in
    let none : letter_of row c.args.general ≡ None = sym (none_left row c.args.general c.loop-index.index c.loop-index-test.false c.loop-index.invariant) ∙ slice_get_past row (length row) (omega arith) in
    ap entries_in (sym none)
