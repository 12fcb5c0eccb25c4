use Rattle.std.proofs.Common.{◌≤◌, arith}
use Rattle.std.proofs.lemmas.Result.{err_from_is_err_and}
use Rattle.surveys.specs.Plotting.{plot_of}
use Rattle.surveys.proofs.PieceSearch.{all_searched, piece_searched, refused_in_piece}
use Rattle.surveys.proofs.breach_search.least_breach.Goals as goal

pub loop-next-preserved : goal.loop-next-preserved
loop-next-preserved g c =
    let a = c.min-until.ensures in
    let b = c.saturating_add.ensures in
    let t = c.loop-next-test.true in
    let low : c.loop-next.next ≤ c.min-until.result = omega arith in
    let high : c.min-until.result ≤ c.args.end = omega arith in
    piece_searched (plot_of c.args.family.now) c.args.first c.loop-next.next c.min-until.result c.args.end c.loop-next.so_far c.least.result c.better-so_far.result c.in_ok-found.found.items
    c.loop-next.invariant low high c.in_ok-found.ensures.shrunk c.least.ensures c.better-so_far.ensures

pub returns-clause-least : goal.returns-clause-least
returns-clause-least g c =
    let t = c.loop-next-test.false in
    all_searched (plot_of c.args.family.now) c.args.first c.loop-next.next c.args.end c.loop-next.so_far c.loop-next.invariant t

pub returns-in_err-found-clause-refused : goal.returns-in_err-found-clause-refused
returns-in_err-found-clause-refused g c =
    let a = c.min-until.ensures in
    let p = err_from_is_err_and c.from_residual.result c.from_residual.ensures.1 in
    let high : c.min-until.result ≤ c.args.end = omega arith in
    rw (p.1, p.2) (λ other. refused_in_piece (plot_of c.args.family.now) c.args.first c.loop-next.next c.min-until.result c.args.end c.loop-next.so_far c.in_err-found.field-0.0 c.loop-next.invariant high (c.in_err-found.ensures.refused other))
