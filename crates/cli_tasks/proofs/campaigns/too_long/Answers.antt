use Rattle.std.proofs.Common.{refl}
use Rattle.cli_tasks.proofs.ScheduleLimits.{none_begun, too_many}
use Rattle.cli_tasks.proofs.campaigns.too_long.Goals as goal

pub returns-then-not-may_begin_text-clause-refused : goal.returns-then-not-may_begin_text-clause-refused
returns-then-not-may_begin_text-clause-refused c all begins =
    none_begun all c.args.front.now begins (c.if-not-may_begin_text.ensures.no_text refl)

pub returns-clause-refused : goal.returns-clause-refused
returns-clause-refused c all begins = too_many all c.args.front.now c.requires begins
