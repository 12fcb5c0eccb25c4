use Rattle.std.proofs.Common.{◌∙◌, sym, ℕ, List}
use Rattle.std.specs.String.{string_bytes}
use Rattle.label.specs.Labels.{on}
use Rattle.table_scenario.specs.Programs.{traitor_text}
use Rattle.table_scenario.proofs.Pieces.{one_chosen, none_chosen}
use Rattle.table_scenario.proofs.writer.push_traitors.Goals as goal
use Rattle.table_scenario.proofs.writer.push_traitors.Goals.{then-is_on+in_ok-push_traitor, else-is_on}

pub loop-general-preserved : goal.loop-general-preserved
loop-general-preserved g c =
    let line : ℕ → List ℕ = traitor_text (g.H.Heard.seen c.args.table.now) in
    elim c.if-is_on.branch [
      | then-is_on+in_ok-push_traitor w ↦
          rw (w.text-is, w.in_ok-push_traitor.ensures, c.loop-general.invariant)
          (one_chosen line (on c.args.traitors.now) c.loop-general.general (string_bytes c.args.text.now) (sym c.is_on.ensures ∙ w.if-is_on.true))
      | else-is_on w ↦
          rw (w.text-is, c.loop-general.invariant)
          (none_chosen line (on c.args.traitors.now) c.loop-general.general (string_bytes c.args.text.now) (sym c.is_on.ensures ∙ w.if-is_on.false))
    ]
