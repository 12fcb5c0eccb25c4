use Rattle.std.proofs.Common.{◌≢◌}
use Rattle.std.proofs.lemmas.Result.{IfErr-weaker, IfOk-weaker}
use Rattle.rayon.specs.Numbers.{nat_range}
use Rattle.scenario.specs.declared.fault.ScenarioError.TheVariants.{Memory}
use Rattle.surveys.specs.Plotting.{plot_of}
use Rattle.surveys.specs.Breaches.{IsFirstError, IsRefusedIn}
use Rattle.surveys.proofs.BreachesFound.{all_found, first_refused}
use Rattle.surveys.proofs.breach_search.breaches.Goals as goal

pub returns-clause-shrunk : goal.returns-clause-shrunk
returns-clause-shrunk g c =
    IfOk-weaker c.all_of.result _ _ (λ found is. all_found (plot_of c.args.family.now) (nat_range c.args.first c.args.end) c.in_ok-answers.answers.items found.items c.in_ok-answers.ensures is) c.all_of.ensures.found

pub returns-clause-refused : goal.returns-clause-refused
returns-clause-refused g c =
    let plots = plot_of c.args.family.now in
    IfErr-weaker c.all_of.result (λ e. e ≢ Memory → IsFirstError c.in_ok-answers.answers.items e) (λ e. e ≢ Memory → IsRefusedIn plots c.args.first c.args.end e)
    (λ e h other. first_refused plots c.args.first c.args.end c.in_ok-answers.answers.items e other c.in_ok-answers.ensures (h other)) c.all_of.ensures.refused
