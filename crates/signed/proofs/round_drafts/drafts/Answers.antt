-- One more draft is made.
use Rattle.std.proofs.Common.{ap, ◌∷◌, []}
use Rattle.std.specs.Prelude.{slice_get}
use Rattle.world.specs.declared.draft.LetterDraft.{LetterDraft}
use Rattle.world.proofs.Holding.{more_each}
use Rattle.signed.specs.Sending.{draft_behind}
use Rattle.signed.proofs.round_drafts.drafts.Goals as goal

pub loop-general-preserved : goal.loop-general-preserved
loop-general-preserved c =
    more_each c.loop-general.general (λ j. draft_behind c.args.scenario.now c.args.sent.now c.args.accesses.now j (slice_get c.args.parts.now j) ∷ []) c.loop-general.drafts.items
    (c.in_ok-draft.field-0 ∷ []) c.push.new.self.items c.in_ok-push.ensures.items c.loop-general.invariant (ap (λ (d : LetterDraft). d ∷ []) c.in_ok-draft.ensures)
