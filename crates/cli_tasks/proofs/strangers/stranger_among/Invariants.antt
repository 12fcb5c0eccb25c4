use Rattle.std.proofs.Common.{◌≡◌, take, None}
use Rattle.std.specs.Prelude.{nat_le, find}
use Rattle.cli_tasks.proofs.strangers.stranger_among.Given as goal

-- None of the generals checked so far is a stranger.
abbrev pub invariant-loop-general : goal.invariant-loop-general
invariant-loop-general l = find (λ g. nat_le l.generals g) (take l.general-index l.named) ≡ None
