use Rattle.std.proofs.Common.{ℕ, arith, subst}
use Rattle.surveys.specs.Plot.{Plot}
use Rattle.surveys.specs.Plotting.{plot_of}
use Rattle.surveys.specs.Breaches.{IsLeastBreach, IsRefusedIn, narrowed}
use Rattle.surveys.proofs.Searching.{further, none_is, searched_before, some_is}
use Rattle.std.proofs.lemmas.Result.{err_from_is_err_and}
use Rattle.surveys.proofs.breach_search.breaking.Goals as goal

pub loop-count-init : goal.loop-count-init
loop-count-init g c = λ t low high. absurd (omega (arith, low, high))

pub loop-count-preserved : goal.loop-count-preserved
loop-count-preserved g c =
    let plots = λ (t : ℕ). plot_of (narrowed c.args.family.now c.args.generals c.args.bound t) in
    rw c.least_so_far-least.ensures
    (further plots c.args.traitors.low c.args.traitors.high c.loop-count.count c.args.first c.args.end c.loop-count.least c.in_ok-breach.breach (omega arith) (omega arith) c.loop-count.invariant
    (subst (λ (some : ℕ → Plot). IsLeastBreach some c.args.first c.args.end c.in_ok-breach.breach) c.in_ok-family.ensures c.in_ok-breach.ensures.least))

pub returns-clause-some : goal.returns-clause-some
returns-clause-some g c = some_is c.args.family.now c.args.generals c.args.bound c.args.traitors c.loop-count.count c.args.first c.args.end c.loop-count.least (omega arith) c.loop-count.invariant

pub returns-clause-none : goal.returns-clause-none
returns-clause-none g c = none_is c.args.family.now c.args.generals c.args.bound c.args.traitors c.loop-count.count c.args.first c.args.end c.loop-count.least (omega arith) c.loop-count.invariant

pub returns-in_err-breach-clause-refused : goal.returns-in_err-breach-clause-refused
returns-in_err-breach-clause-refused g c =
    let plots = λ (t : ℕ). plot_of (narrowed c.args.family.now c.args.generals c.args.bound t) in
    let p = err_from_is_err_and c.from_residual-in_err-breach.result c.from_residual-in_err-breach.ensures.1 in
    let e = c.in_err-breach.field-0.0 in
    rw (p.1, p.2) (λ other. record {
      traitors = c.loop-count.count;
      within = omega arith;
      inside = omega arith;
      refused = subst (λ (some : ℕ → Plot). IsRefusedIn some c.args.first c.args.end e) c.in_ok-family.ensures (c.in_err-breach.ensures.refused other);
      fewer = searched_before plots c.args.traitors.low c.args.traitors.high c.loop-count.count c.args.first c.args.end c.loop-count.least c.loop-count.invariant;
    })
