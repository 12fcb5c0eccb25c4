use Rattle.std.proofs.Common.{◌≡◌, ◌≤◌, ◌+◌, ◌++◌, map, take, vec_len}
use Rattle.signed.specs.Entries.{received}
use Rattle.signed.specs.Sending.{dispatch_of, lent}
use Rattle.signed.proofs.held_chains.take.Given as goal

abbrev pub invariant-loop-chain : goal.invariant-loop-chain
invariant-loop-chain l = record {
  came : lent l.chains.items ≡ lent l.initial.chains.items ++ received l.general (map dispatch_of (take l.chain-index l.chain-items));
  few : vec_len l.chains ≤ vec_len l.initial.chains + l.chain-index;
}
