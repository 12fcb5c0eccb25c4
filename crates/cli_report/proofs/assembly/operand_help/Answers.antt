use Rattle.std.proofs.Common.{◌≡◌, ◌∙◌, false, sym, true}
use Rattle.cli_report.specs.Assembly.{is_call}
use Rattle.cli_report.proofs.assembly.operand_help.Goals as goal

pub returns-then-is_call : goal.returns-then-is_call
returns-then-is_call c =
    let yes : is_call c.args.takes ≡ true = sym c.is_call.ensures ∙ c.if-is_call.true in
    rw yes c.helper_help.ensures

pub returns : goal.returns
returns c =
    let no : is_call c.args.takes ≡ false = sym c.is_call.ensures ∙ c.if-is_call.false in
    rw no c.or_small.ensures
