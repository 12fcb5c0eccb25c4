use Rattle.std.specs.Prelude.{suc}
use Rattle.signed.specs.Sent.{delivered, sent_in}
use Rattle.signed.proofs.Gathering.{bringing_orders}
use Rattle.signed.proofs.laws.accepted_orders_decide.Goals as goal

pub returns : goal.returns
returns c chronicle p = bringing_orders chronicle.scenario.generals (delivered (sent_in chronicle.scenario chronicle.letters)) (suc chronicle.scenario.bound) p
