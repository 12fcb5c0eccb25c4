use Rattle.std.proofs.Common.{[]}
use Rattle.std.specs.Prelude.{IfErr, IsSomeAnd, option_map}
use Rattle.std.proofs.lemmas.Result.{err_from_is_err_and}
use Rattle.cli_tasks.specs.CampaignRefusals.{RefusesMuster}
use Rattle.cli_tasks.specs.Faults.{IsToldIf, Stops}
use Rattle.cli_tasks.specs.Serving.{IsToldLater}
use Rattle.cli_tasks.specs.Whys.{Nothing, TellsWhyOf, is_explained}
use Rattle.cli_tasks.specs.declared.failure.TaskFailure.{TaskFailure}
use Rattle.cli_tasks.specs.declared.first_answer.FirstAnswer.TheVariants.{Muster}
use Rattle.cli_tasks.specs.declared.refusal.InputRefusal.{InputRefusal}
use Rattle.cli_tasks.proofs.FilesLemmas.{told_later}
use Rattle.cli_tasks.proofs.MusterLemmas.{either_err}
use Rattle.cli_tasks.proofs.WhyLemmas.{unmustered}
use Rattle.cli_tasks.proofs.service.completed.Goals as goal

pub returns-in_err-mustered_text-in-Muster-clause-fault : goal.returns-in_err-mustered_text-in-Muster-clause-fault
returns-in_err-mustered_text-in-Muster-clause-fault g c =
    let unread = IsSomeAnd c.args.second g.R.Source.fails in
    let known = option_map g.R.Source.bytes c.args.second in
    let reported = c.is_explained-told.result in
    let course = Muster c.in-Muster.campaign c.in-Muster.explained in
    let P : TaskFailure → Type 0 = λ fault. Stops unread (IsToldLater reported c.args.file.now known course) c.args.file.now fault in
    let all : IfErr c.mustered_text.result P =
    either_err (λ (cause : InputRefusal). λ (fault : TaskFailure). IsToldIf reported cause c.args.file (TellsWhyOf cause Nothing c.args.file.now []) fault) RefusesMuster P c.mustered-text.result c.mustered_text.result c.mustered_text.ensures
    (λ refusal fault refuses told. unmustered unread reported known c.in-Muster.campaign c.in-Muster.explained refusal c.args.file fault (λ other. (other, refuses)) told)
    c.mustered-text.ensures.refused in
    let own = c.in_err-mustered_text-in-Muster.field-0.0 in
    let why : P own = rw c.in_err-mustered_text-in-Muster.was at all in
    let p = err_from_is_err_and c.from_residual-in_err-mustered_text-in-Muster.result c.from_residual-in_err-mustered_text-in-Muster.ensures.1 in
    rw (p.1, p.2) (told_later unread reported (is_explained c.args.task.now) c.args.file.now known c.args.more course own c.is_explained-told.ensures c.in-Muster.is tt why)
