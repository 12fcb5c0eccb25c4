use Rattle.std.proofs.Common.{arith}
use Rattle.label.proofs.Absent.{lieutenant-has}
use Rattle.label.proofs.ranking.unrank.Goals as goal

pub label_at-requires-clause-space : goal.label_at-requires-clause-space
label_at-requires-clause-space c = (lieutenant-has c.args.space c.args.size c.args.rank c.requires (let e = c.count.ensures in let l = c.if-rank-count.false in omega arith)).0

pub label_at-requires-clause-some : goal.label_at-requires-clause-some
label_at-requires-clause-some c = (lieutenant-has c.args.space c.args.size c.args.rank c.requires (let e = c.count.ensures in let l = c.if-rank-count.false in omega arith)).1

pub label_at-requires-clause-short : goal.label_at-requires-clause-short
label_at-requires-clause-short c = (lieutenant-has c.args.space c.args.size c.args.rank c.requires (let e = c.count.ensures in let l = c.if-rank-count.false in omega arith)).2
