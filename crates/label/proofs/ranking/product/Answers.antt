use Rattle.std.proofs.Common.{◌≡◌, ◌<◌, ◌*◌, ◌+◌, ◌^◌, length, arith}
use Rattle.label.specs.Space.{labels_of}
use Rattle.label.proofs.Counts.{count-none, count-more, count-fits}
use Rattle.label.proofs.ranking.product.Goals as goal

pub loop-k-init : goal.loop-k-init
loop-k-init c = count-none c.args.space c.requires.space

pub loop-k-preserved : goal.loop-k-preserved
loop-k-preserved c = rw (c.from-all.ensures, c.saturating_sub.ensures) (count-more c.args.space c.requires.space c.loop-k.k c.loop-k.all c.loop-k.auto.k c.loop-k.invariant)

pub overflow_mul-all : goal.overflow_mul-all
overflow_mul-all c =
    let e : c.loop-k.all * c.from-all.result ≡ length (labels_of c.args.space (c.loop-k.k + 1)) = loop-k-preserved c in
    let h : length (labels_of c.args.space (c.loop-k.k + 1)) < 2 ^ 32 = count-fits c.args.space c.requires.space c.loop-k.k (omega arith) in
    omega arith
