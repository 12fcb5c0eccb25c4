use Rattle.std.proofs.Common.{◌∙◌, ap}
use Rattle.object.specs.Places.{name_in, told_of}
use Rattle.object.proofs.TextLemmas.{texts_none, texts_pushed}
use Rattle.object.proofs.unit_places.texts_of.Goals as goal

pub loop-unit-init : goal.loop-unit-init
loop-unit-init c =
    texts_none (name_in c.args.object.now c.args.header) c.args.rows.now c.args.function.value c.new-texts.result.items c.new-texts.ensures.items

pub loop-unit-preserved : goal.loop-unit-preserved
loop-unit-preserved c =
    texts_pushed (name_in c.args.object.now c.args.header) c.args.rows.now c.args.function.value c.loop-unit.unit c.loop-unit.texts.items c.push.new.self.items
    c.in_ok-told_of.field-0 c.loop-unit.invariant c.in_ok-push.ensures.items
    (c.in_ok-told_of.ensures ∙ ap (told_of (name_in c.args.object.now c.args.header)) c.row_of-row.ensures)
