use Rattle.std.proofs.Common.{◌≡◌, ◌∙◌, Option, get_or, length, map-id, subst, sym}
use Rattle.std.specs.declared.result.Result.{Result}
use Rattle.std.proofs.lemmas.Iterator.Adapters.{YieldsList-from_vec}
use Rattle.std.proofs.lemmas.Iterator.Consumers.{YieldsList-so_far, YieldsList-turn}
use Rattle.std.proofs.lemmas.Result.{err_from_is_err_and}
use Rattle.scenario.specs.declared.fault.ScenarioError.{ScenarioError}
use Rattle.surveys.specs.declared.breach.Breach.{Breach}
use Rattle.surveys.proofs.BreachesFound.{first_error}
use Rattle.surveys.proofs.breach_search.all_of.Goals as goal

pub returns-in_err-answer-clause-refused : goal.returns-in_err-answer-clause-refused
returns-in_err-answer-clause-refused c =
    let given = c.into_iter-answer-iterator.ensures.into_iter_gives in
    let answers = c.args.answers.items in
    let taken = c.loop-answer.yielded in
    let chain = YieldsList-from_vec {s = c.into_iter-answer-iterator.result} answers given.0 (given.1 ∙ c.args.answers.ok.0) in
    let so = sym (map-id taken) ∙ YieldsList-so_far chain taken c.loop-answer.answer-iterator c.loop-answer.yielded_by in
    let turn = YieldsList-turn chain taken c.loop-answer.answer-iterator c.loop-answer.yielded_by _ c.next.new.self c.in-Some.answer c.in-Some.is c.next.ensures.steps in
    let at = subst (λ (answer : Result (Option Breach) ScenarioError). answer ≡ get_or answers (length taken) answer) c.in_err-answer.was turn.1 in
    let p = err_from_is_err_and c.from_residual.result c.from_residual.ensures.1 in
    rw (p.1, p.2) (λ other. first_error c.loop-answer.found.items answers taken c.in_err-answer.field-0.0 c.loop-answer.invariant so turn.0 at)
