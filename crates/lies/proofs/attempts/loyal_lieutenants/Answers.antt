use Rattle.std.proofs.Common.{◌≡◌, ◌<◌, ◌∷◌, not, length, sym, ap, ◌∙◌, arith, lit<}
use Rattle.label.specs.Labels.{on, others}
use Rattle.book.proofs.Gathering.{off_first, on_first, on_behind}
use Rattle.book.proofs.Steps.{others-more_no, others-more_yes}
use Rattle.lies.proofs.CodeLemmas.{filter_few}
use Rattle.lies.proofs.attempts.loyal_lieutenants.Goals as goal
use Rattle.lies.proofs.attempts.loyal_lieutenants.Goals.{then-general-commander+then-not-is_among, else-general-commander, else-general-commander-via-then-general-commander+else-not-is_among, else-general-commander-via-else-general-commander}

pub push-requires : goal.push-requires
push-requires c =
    let few = filter_few (λ g. not (on (c.args.commander ∷ c.args.traitors.now) g)) c.loop-general.general in
    let so : length c.loop-general.loyals.items ≡ length (others c.loop-general.general (c.args.commander ∷ c.args.traitors.now)) = ap length c.loop-general.invariant in
    let limit = c.requires in
    let test = c.loop-general-test.true in
    let room : length c.loop-general.loyals.items < 13 = omega arith in
    (lit< tt, room)

pub loop-general-preserved : goal.loop-general-preserved
loop-general-preserved c =
    elim c.if-general-commander.branch [
      | then-general-commander+then-not-is_among w ↦
          let off = off_first c.args.commander c.loop-general.general c.args.traitors.now w.if-general-commander.true (sym w.is_among.ensures ∙ w.if-not-is_among.true) in
          rw (w.loyals-is, w.push.ensures.items, c.loop-general.invariant) (sym (others-more_yes (c.args.commander ∷ c.args.traitors.now) c.loop-general.general off))
      | else-general-commander w ↦
          elim w.else-general-commander.branch [
            | else-general-commander-via-then-general-commander+else-not-is_among w' ↦
                let named = on_behind c.args.commander c.loop-general.general c.args.traitors.now (sym w'.is_among.ensures ∙ w'.if-not-is_among.false) in
                rw (w.loyals-is, c.loop-general.invariant) (sym (others-more_no (c.args.commander ∷ c.args.traitors.now) c.loop-general.general named))
            | else-general-commander-via-else-general-commander w' ↦
                let first = on_first c.args.commander c.loop-general.general c.args.traitors.now w'.if-general-commander.false in
                rw (w.loyals-is, c.loop-general.invariant) (sym (others-more_no (c.args.commander ∷ c.args.traitors.now) c.loop-general.general first))
          ]
    ]
