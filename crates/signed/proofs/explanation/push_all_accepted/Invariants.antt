use Rattle.std.proofs.Common.{◌≡◌, ◌++◌, take}
use Rattle.std.specs.List.{flat_map}
use Rattle.std.specs.String.{string_bytes}
use Rattle.signed.specs.Explained.{accepted_line}
use Rattle.signed.specs.Sending.{lent}
use Rattle.signed.proofs.explanation.push_all_accepted.Given as goal

-- The lines of the chains so far are written.
abbrev pub invariant-loop-chain : goal.invariant-loop-chain
invariant-loop-chain l = string_bytes l.lines ≡ string_bytes l.fn.lines ++ flat_map accepted_line (lent (take l.chain-index l.chains))
