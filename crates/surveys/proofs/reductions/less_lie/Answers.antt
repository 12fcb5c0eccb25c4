use Rattle.surveys.proofs.SmallerCampaigns.{still_lie, refused_lie}
use Rattle.std.proofs.lemmas.Result.{err_from_is_err_and}
use Rattle.surveys.proofs.reductions.less_lie.Goals as goal

pub returns-clause-some : goal.returns-clause-some
returns-clause-some c =
    still_lie c.args.plot.now c.in_ok-less.less c.args.place c.args.index c.in_ok-comes_well.field-0 c.requires.place c.requires.index
    c.in_ok-less.ensures c.in_ok-comes_well.ensures.comes c.if-branch.false

pub returns-in_err-comes_well-clause-refused : goal.returns-in_err-comes_well-clause-refused
returns-in_err-comes_well-clause-refused c =
    let p = err_from_is_err_and c.from_residual-in_err-comes_well.result c.from_residual-in_err-comes_well.ensures.1 in
    rw (p.1, p.2) (λ other. refused_lie c.args.plot.now c.in_ok-less.less c.args.place c.args.index c.in_err-comes_well.field-0.0 c.requires.place c.requires.index c.in_ok-less.ensures (c.in_err-comes_well.ensures.refused other))
