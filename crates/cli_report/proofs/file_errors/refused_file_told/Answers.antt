use Rattle.std.specs.Prelude.{IfOk, option_map, string_bytes}
use Rattle.std.proofs.Common.{subst}
use Rattle.scenario.specs.Seen.{source_of}
use Rattle.cli_report.specs.Made.{IsRefusedFile}
use Rattle.cli_report.proofs.file_errors.refused_file_told.Goals as goal

pub returns-in_ok-file-in-Some : goal.returns-in_ok-file-in-Some
returns-in_ok-file-in-Some c =
    subst (λ key. IfOk c.unit_of_file_told.result (λ told. IsRefusedFile c.args.name.now c.args.own.now c.args.reason c.args.unit (option_map source_of c.args.source) c.args.table key (string_bytes told)))
    c.in-Some.ensures
    (rw (c.as_str.ensures.value, c.in_ok-file-in-Some.ensures, c.quoted_value.ensures, c.assembly_of.ensures) at c.unit_of_file_told.ensures)
