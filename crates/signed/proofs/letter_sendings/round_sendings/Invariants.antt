use Rattle.std.proofs.Common.{◌≡◌, map}
use Rattle.label.specs.Labels.{generals}
use Rattle.round.specs.Letters.{letter_of}
use Rattle.signed.specs.Sent.{sends}
use Rattle.signed.proofs.letter_sendings.round_sendings.Given as goal

abbrev pub invariant-loop-general : goal.invariant-loop-general
invariant-loop-general l = l.sendings.items ≡ map (λ g. sends l.scenario l.sent g (letter_of l.letters g)) (generals l.general)
