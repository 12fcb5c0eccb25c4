use Rattle.std.proofs.Common.{sym, ◌∙◌}
use Rattle.std.proofs.lemmas.Result.{IfOk-weaker}
use Rattle.surveys.proofs.Reducing.{first_lie, first_traitor}
use Rattle.surveys.proofs.reductions.less.Goals as goal

pub returns-then-is_some-clause-first : goal.returns-then-is_some-clause-first
returns-then-is_some-clause-first c = first_traitor c.args.plot.now c.in_ok-fewer.fewer c.in_ok-fewer.ensures.first

pub returns-clause-first : goal.returns-clause-first
returns-clause-first c =
    IfOk-weaker c.fewer_lies.result _ _
    (λ o h. first_lie c.args.plot.now c.in_ok-fewer.fewer (sym c.is_some.ensures ∙ c.if-is_some.false) c.in_ok-fewer.ensures.none o h) c.fewer_lies.ensures.first
