use Rattle.std.proofs.Common.{◌+◌, refl}
use Rattle.surveyor.proofs.BrokenLemmas.{searched_is}
use Rattle.surveyor.proofs.breaches.searched.Goals as goal

pub returns-in-Ok-clause-searched : goal.returns-in-Ok-clause-searched
returns-in-Ok-clause-searched g c =
    let s = c.args.asked.now in
    searched_is s c.args.family.now c.args.generals c.args.bound c.cut_to-traitors.result (s.last + 1) c.in-Ok.found c.cut_to-traitors.ensures refl c.in-Ok.ensures.some c.in-Ok.ensures.none
