use Rattle.std.proofs.Common.{rules, []}
use Rattle.serde_json.specs.View.{items_view}
use Rattle.text.specs.Parts.{pieces}
use Rattle.cli_answers.specs.Advice.{instructions, quote}
use Rattle.cli_answers.proofs.ItemLemmas.{each_told, quoted_more, two_given}
use Rattle.cli_answers.proofs.advice.instructions.Goals as goal

pub loop-quoted-preserved-in-Some : goal.loop-quoted-preserved-in-Some
loop-quoted-preserved-in-Some c =
    quoted_more c.loop-quoted.items.items c.push.new.self.items c.in_ok-spelled.field-0 (pieces quote c.loop-quoted.rest.now) (pieces quote c.in-Some.behind.now)
    c.piece.result.0.now c.piece-in_default-Some.result.0.now _
    (rw c.in-Some.is at (two_given quote c.piece.result.0.now c.in_default-Some.quoted.now c.piece-in_default-Some.result.0.now (pieces quote c.loop-quoted.rest.now)
    c.piece-in_default-Some.result.1 (rw c.in_default-Some.is-1 at c.piece.ensures.first) c.piece-in_default-Some.ensures.first))
    c.in_ok-push.ensures.items c.in_ok-spelled.ensures c.loop-quoted.invariant

pub loop-quoted-preserved : goal.loop-quoted-preserved
loop-quoted-preserved c =
    quoted_more c.loop-quoted.items.items c.push.new.self.items c.in_ok-spelled.field-0 (pieces quote c.loop-quoted.rest.now) []
    c.piece.result.0.now c.piece-in_default-Some.result.0.now _
    (rw c.in-None.is at (two_given quote c.piece.result.0.now c.in_default-Some.quoted.now c.piece-in_default-Some.result.0.now (pieces quote c.loop-quoted.rest.now)
    c.piece-in_default-Some.result.1 (rw c.in_default-Some.is-1 at c.piece.ensures.first) c.piece-in_default-Some.ensures.first))
    c.in_ok-push.ensures.items c.in_ok-spelled.ensures c.loop-quoted.invariant

pub returns : goal.returns
returns c = each_told (items_view c.loop-quoted.items.items) (instructions (pieces quote c.args.help.now)) (search rules)
