use Rattle.std.proofs.Common.{◌≡◌, ◌∙◌, refl, sym, ap, true, false}
use Rattle.std.specs.Prelude.{Err, is_some}
use Rattle.std.proofs.lemmas.Result.{err_from_is_err_and}
use Rattle.std.specs.List.{list_any}
use Rattle.book.specs.Table.{is_about}
use Rattle.book.specs.Grammar.{checked, is_place, message_of}
use Rattle.book.proofs.ReadingLemmas.{no_shape, no_label_there, place_is, placed_so, read_is}
use Rattle.book.proofs.ToldLemmas.{told_any}
use Rattle.book.proofs.reader.read_message.Goals as goal

pub returns-in_default : goal.returns-in_default
returns-in_default c = no_shape c.args.table.now c.args.line.now (sym c.in_default.ensures)

pub returns-in_err-label : goal.returns-in_err-label
returns-in_err-label c =
    let told : Err c.in_err-label.field-0.0 ≡ checked c.args.table.now (message_of c.args.line.now) =
    no_label_there c.args.table.now c.args.line.now c.in-Some.label.now c.in-Some.receiver c.in-Some.order c.in_err-label.field-0.0 c.label_in.ensures.within.present (sym c.in-Some.ensures) (sym c.in_err-label.ensures.label) in
    let p = err_from_is_err_and c.from_residual.result c.from_residual.ensures.1 in
    p.1 ∙ (ap Err p.2 ∙ told)

pub returns-then-not-can_hear : goal.returns-then-not-can_hear
returns-then-not-can_hear c =
    let read = read_is c.args.table.now c.in-Some.label.now c.in_ok-label.label (sym c.in_ok-label.ensures.label) in
    sym (placed_so c.args.table.now c.args.line.now c.in-Some.label.now c.in_ok-label.label c.in-Some.receiver c.in-Some.order (sym c.in-Some.ensures) read false
    (place_is c.args.table.now c.in_ok-label.label c.in-Some.receiver c.label_in.ensures.within.present read.begun ∙ (sym c.can_hear.ensures.value ∙ c.if-not-can_hear.true)))

pub told-requires : goal.told-requires
told-requires c =
    let read = read_is c.args.table.now c.in-Some.label.now c.in_ok-label.label (sym c.in_ok-label.ensures.label) in
    place_is c.args.table.now c.in_ok-label.label c.in-Some.receiver c.label_in.ensures.within.present read.begun ∙ (sym c.can_hear.ensures.value ∙ c.if-not-can_hear.false)

pub returns-then-is_some : goal.returns-then-is_some
returns-then-is_some c =
    let read = read_is c.args.table.now c.in-Some.label.now c.in_ok-label.label (sym c.in_ok-label.ensures.label) in
    let place : is_place c.args.table.now c.in_ok-label.label c.in-Some.receiver ≡ true =
    place_is c.args.table.now c.in_ok-label.label c.in-Some.receiver c.label_in.ensures.within.present read.begun ∙ (sym c.can_hear.ensures.value ∙ c.if-not-can_hear.false) in
    let again : list_any (is_about c.in_ok-label.label c.in-Some.receiver) c.args.table.now.messages ≡ true =
    sym (told_any c.args.table.now.messages c.in_ok-label.label c.in-Some.receiver) ∙ (ap is_some (sym c.told.ensures) ∙ (sym c.is_some.ensures ∙ c.if-is_some.true)) in
    rw (placed_so c.args.table.now c.args.line.now c.in-Some.label.now c.in_ok-label.label c.in-Some.receiver c.in-Some.order (sym c.in-Some.ensures) read true place, again) refl

pub returns : goal.returns
returns c =
    let read = read_is c.args.table.now c.in-Some.label.now c.in_ok-label.label (sym c.in_ok-label.ensures.label) in
    let place : is_place c.args.table.now c.in_ok-label.label c.in-Some.receiver ≡ true =
    place_is c.args.table.now c.in_ok-label.label c.in-Some.receiver c.label_in.ensures.within.present read.begun ∙ (sym c.can_hear.ensures.value ∙ c.if-not-can_hear.false) in
    let once : list_any (is_about c.in_ok-label.label c.in-Some.receiver) c.args.table.now.messages ≡ false =
    sym (told_any c.args.table.now.messages c.in_ok-label.label c.in-Some.receiver) ∙ (ap is_some (sym c.told.ensures) ∙ (sym c.is_some.ensures ∙ c.if-is_some.false)) in
    rw (placed_so c.args.table.now c.args.line.now c.in-Some.label.now c.in_ok-label.label c.in-Some.receiver c.in-Some.order (sym c.in-Some.ensures) read true place, once) refl
