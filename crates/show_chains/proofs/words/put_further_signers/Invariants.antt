use Rattle.std.proofs.Common.{◌≡◌, ◌++◌, take}
use Rattle.std.specs.Prelude.{codes}
use Rattle.std.specs.Fmt.{decimal}
use Rattle.std.specs.List.{flat_map}
use Rattle.std.specs.String.{string_bytes}
use Rattle.show_chains.proofs.words.put_further_signers.Given as goal

-- The generals so far are written.
abbrev pub invariant-loop-general : goal.invariant-loop-general
invariant-loop-general l = string_bytes l.out ≡ string_bytes l.fn.out ++ flat_map (λ g. codes "." ++ decimal g) (take l.general-index l.generals)
