use Rattle.serde_json.specs.View.{items_view}
use Rattle.text.specs.Parts.{lines_of}
use Rattle.cli_answers.specs.Advice.{note_of}
use Rattle.cli_answers.proofs.ItemLemmas.{each_told, more_each}
use Rattle.cli_answers.proofs.advice.notes.Goals as goal

pub loop-first-preserved-in_ok-push : goal.loop-first-preserved-in_ok-push
loop-first-preserved-in_ok-push c =
    more_each note_of c.loop-first.notes.items c.push.new.self.items c.in-Some-2.note (lines_of c.loop-first.rest.now) (lines_of c.in-Some.behind.now) c.in-Some.first.now _
    c.in-Some.ensures.first c.in_ok-push.ensures.items (rw c.in-Some-2.is at c.in_ok-note.ensures) c.loop-first.invariant

pub returns : goal.returns
returns c = each_told (items_view c.loop-first.notes.items) _ (rw c.in_default.ensures.first at c.loop-first.invariant)
