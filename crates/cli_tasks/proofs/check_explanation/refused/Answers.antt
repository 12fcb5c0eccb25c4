-- The contract holds for each way in which the function returns.
use Rattle.std.proofs.Common.{Bool, true, false, ◌≡◌, ◌∙◌, refl, subst, sym}
use Rattle.cli_tasks.specs.Faults.{IsUnjudged}
use Rattle.cli_tasks.proofs.FilesLemmas.{first_named}
use Rattle.cli_tasks.proofs.FirstLemmas.{asked_reports, explained_first, quiet_first, unasked_first, unread_first}
use Rattle.cli_tasks.proofs.check_explanation.refused.Goals as goal

pub returns-in_default-clause-stops : goal.returns-in_default-clause-stops
returns-in_default-clause-stops c known are =
    unasked_first c.args.task.now known c.args.bytes.now c.args.refusal c.unwrap_or-file.result c.unjudged.result are
    (first_named c.args.task.now c.file.result c.unwrap_or-file.result _ c.file.ensures c.unwrap_or-file.ensures refl)
    c.requires (sym c.in_default.ensures) (rw (c.bytecode_in-own.ensures) at c.unjudged.ensures)

pub returns-in-Ok-clause-stops : goal.returns-in-Ok-clause-stops
returns-in-Ok-clause-stops c known are =
    explained_first c.args.task.now c.in-Some.notation.now known c.args.bytes.now c.args.refusal c.in-Ok.text are c.requires (sym c.in-Some.ensures) c.in-Ok.ensures.why

pub returns-clause-stops : goal.returns-clause-stops
returns-clause-stops c known are =
    unread_first c.args.task.now c.in-Some.notation.now known c.args.bytes.now c.args.refusal c.in-Err.unread c.unwrap_or-file.result c.unjudged-in-Err.result are
    (first_named c.args.task.now c.file.result c.unwrap_or-file.result _ c.file.ensures c.unwrap_or-file.ensures refl)
    (sym c.in-Some.ensures) c.in-Err.ensures.refused (rw (c.bytecode_in-own.ensures) at c.unjudged-in-Err.ensures)

pub returns-in_default-clause-quiet : goal.returns-in_default-clause-quiet
returns-in_default-clause-quiet c = λ quiet other.
    quiet_first c.args.refusal c.unwrap_or-file.result c.bytecode_in-own.result.now c.unjudged.result other
    (subst (λ (b : Bool). IsUnjudged b c.args.refusal c.unwrap_or-file.result c.bytecode_in-own.result.now c.unjudged.result) quiet c.unjudged.ensures)

pub returns-in-Ok-clause-quiet : goal.returns-in-Ok-clause-quiet
returns-in-Ok-clause-quiet c = λ quiet other e. cc

pub returns-clause-quiet : goal.returns-clause-quiet
returns-clause-quiet c = λ quiet other.
    let z : true ≡ false = sym (asked_reports c.args.task.now c.args.refusal c.in-Some.notation.now (sym c.in-Some.ensures)) ∙ quiet in
    absurd cc
