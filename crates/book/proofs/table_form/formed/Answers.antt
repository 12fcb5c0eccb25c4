use Rattle.std.proofs.Common.{rules, ◌≡◌, string_bytes}
use Rattle.std.specs.Prelude.{Some}
use Rattle.text.specs.Number.{decimal_of}
use Rattle.book.proofs.NumberLemmas.{formed_uncut, numbers_told}
use Rattle.book.proofs.table_form.formed.Goals as goal

pub returns-clause-formed : goal.returns-clause-formed
returns-clause-formed c =
    let generals : decimal_of c.args.generals.now ≡ Some c.in-Some.generals = search rules in
    let bound : decimal_of c.args.bound.now ≡ Some c.in-Some-decimal.bound = search rules in
    let commander : decimal_of c.args.commander.now ≡ Some c.in-Some-decimal-2.commander = search rules in
    formed_uncut c.args.generals.now c.args.bound.now c.args.commander.now _ _ _ _ _ _ (string_bytes c.in_ok-form.field-0)
    (numbers_told _ _ _ _ _ _ generals bound commander) c.narrowed.ensures c.narrowed-2.ensures c.narrowed-3.ensures c.in_ok-form.ensures.within c.in_ok-form.ensures.form
