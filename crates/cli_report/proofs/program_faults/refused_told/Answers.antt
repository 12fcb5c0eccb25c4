use Rattle.std.proofs.Common.{◌≡◌, ◌∙◌, Bor, ap, refl, subst}
use Rattle.std.specs.Prelude.{Option, None, Some, option_copied, option_map, string_bytes}
use Rattle.std.proofs.lemmas.Result.{IfOk-weaker}
use Rattle.toml.specs.View.{table_view}
use Rattle.cli_report.specs.Scenarios.{IsRefusedBy}
use Rattle.cli_report.proofs.program_faults.refused_told.Goals as goal

-- The view of an option of a reference, and of the option of what it points to.
seen : {T V : Type 0} (view : T → V) (o : Option (Bor T)) → option_map (λ t. view t.now) o ≡ option_map view (option_copied o)
seen view None = refl
seen view (Some t) = refl

pub returns : goal.returns
returns c =
    let same = seen table_view c.as_ref.result ∙ ap (option_map table_view) c.as_ref.ensures.value in
    IfOk-weaker c.refused_by.result _ _
    (λ told by. (
      option_map table_view c.in_ok-tables.tables,
      c.in_ok-tables.ensures,
      subst (λ members. IsRefusedBy c.args.name.now c.args.text.now c.args.general c.args.reason c.args.unit members (string_bytes told)) same by,
    ))
    c.refused_by.ensures
