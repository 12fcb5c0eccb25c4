use Rattle.std.proofs.Common.{◌≡◌, ◌++◌, take}
use Rattle.std.specs.List.{flat_map}
use Rattle.std.specs.String.{string_bytes}
use Rattle.show_chains.specs.Unaccepted.{line_if}
use Rattle.show_chains.proofs.unaccepted.put_lines.Given as goal

-- The lines for the chains so far are written.
abbrev pub invariant-loop-chain : goal.invariant-loop-chain
invariant-loop-chain l = string_bytes l.out ≡ string_bytes l.fn.out ++ flat_map (line_if l.brought l.round l.general l.sender) (take l.chain-index l.sent)
