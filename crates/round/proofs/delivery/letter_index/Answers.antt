-- The first letter of the general, or none.
use Rattle.std.proofs.Common.{◌∙◌, length, sym, ap, refl}
use Rattle.std.proofs.lemmas.Option.{slice_get_read}
use Rattle.round.specs.Letters.{Letter}
use Rattle.round.proofs.Senders.{first_letter, none_more, none_left}
use Rattle.round.proofs.delivery.letter_index.Goals as goal

pub returns-then-letter-general : goal.returns-then-letter-general
returns-then-letter-general c =
    let row = c.args.letters.now in let i = c.loop-index.index in let l = c.index-letters-index.result in
    slice_get_read row (length row) i l refl c.loop-index-test.true c.index-letters-index.is
    ∙ sym (first_letter row c.args.general i l l c.loop-index-test.true c.index-letters-index.is (ap (λ (y : Letter). y.general) (sym c.letter.view_is) ∙ c.if-letter-general.true) c.loop-index.invariant)

pub loop-index-preserved : goal.loop-index-preserved
loop-index-preserved c =
    none_more c.args.letters.now c.args.general c.loop-index.index c.index-letters-index.result c.index-letters-index.result c.loop-index-test.true c.index-letters-index.is
    (λ e. c.if-letter-general.false (ap (λ (y : Letter). y.general) c.letter.view_is ∙ e)) c.loop-index.invariant

pub returns : goal.returns
returns c = none_left c.args.letters.now c.args.general c.loop-index.index c.loop-index-test.false c.loop-index.invariant
