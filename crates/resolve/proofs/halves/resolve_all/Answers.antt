use Rattle.std.proofs.Common.{◌/◌, length}
use Rattle.resolve.specs.Decided.{Decides}
use Rattle.resolve.proofs.Joining.{halves_join}
use Rattle.resolve.proofs.halves.resolve_all.Goals as goal

pub returns : goal.returns
returns g c =
    halves_join (Decides (g.C.Combine.combined c.args.rule.now)) (length c.args.trees.now / 2) c.args.trees.now c.split_at.result.0.now c.split_at.result.1.now c.in_ok-all.all.items c.in_ok-rest.rest.items c.append.new.self.items c.split_at.ensures.front c.split_at.ensures.back
    (rw c.in_ok-all.was at c.join-first.ensures.first) (rw c.in_ok-rest.was at c.join-first.ensures.second) c.in_ok-append.ensures.items
