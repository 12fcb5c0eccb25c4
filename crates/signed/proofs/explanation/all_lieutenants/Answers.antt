use Rattle.std.proofs.Common.{◌≡◌, ◌∙◌, ◌∷◌, [], ap, refl, sym}
use Rattle.round.specs.Scenario.{Scenario}
use Rattle.book.proofs.Gathering.{lines_no, lines_yes, off_first, on_first}
use Rattle.signed.specs.Explained.{acceptance_lines}
use Rattle.signed.proofs.explanation.all_lieutenants.Goals as goal
use Rattle.signed.proofs.explanation.all_lieutenants.Goals.{then-general-commander+in_ok-push_lieutenant, else-general-commander}

pub loop-general-preserved : goal.loop-general-preserved
loop-general-preserved c =
    let line = acceptance_lines c.args.chronicle.now in
    let commander = c.args.chronicle.now.scenario.commander in
    let same : c.commander.result ≡ c.args.chronicle.now.scenario.commander = c.commander.ensures.same ∙ ap (λ (s : Scenario). s.commander) c.scenario-scenario.ensures in
    elim c.if-general-commander.branch [
      | then-general-commander+in_ok-push_lieutenant w ↦
          let off = off_first commander c.loop-general.general [] (λ e. w.if-general-commander.true (e ∙ sym same)) refl in
          rw (w.lines-is, w.in_ok-push_lieutenant.ensures, c.loop-general.invariant) (sym (lines_yes line (commander ∷ []) c.loop-general.general off))
      | else-general-commander w ↦
          let first = on_first commander c.loop-general.general [] (w.if-general-commander.false ∙ same) in
          rw (w.lines-is, c.loop-general.invariant) (sym (lines_no line (commander ∷ []) c.loop-general.general first))
    ]
