use Rattle.std.proofs.Common.{◌≡◌, List}
use Rattle.round.specs.Letters.{Letter}
use Rattle.signed.specs.Sent.{sent_in}
use Rattle.signed.proofs.Judged.{HaveDecided}
use Rattle.signed.proofs.judgement.decisions_of.Given as goal

abbrev pub invariant-loop-general : goal.invariant-loop-general
invariant-loop-general l = (closed : List (List Letter)) → l.sent ≡ sent_in l.scenario closed → HaveDecided l.scenario closed l.general l.decisions.items
