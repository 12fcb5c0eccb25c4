use Rattle.std.proofs.Common.{refl}
use Rattle.scenario.proofs.ListLemmas.{pushed_one}
use Rattle.scenario.proofs.resolution.push.Goals as goal

pub returns : goal.returns
returns c = pushed_one c.args.done.now.items c.push.new.self.items c.args.value _ c.in_ok-push.ensures.items refl
