use Rattle.std.proofs.Common.{◌≡◌, ◌≤◌, ◌+◌, ◌*◌, ◌++◌, take, vec_len}
use Rattle.signed.specs.Sending.{lent, received_in}
use Rattle.signed.proofs.held_chains.take_round.Given as goal

abbrev pub invariant-loop-sending : goal.invariant-loop-sending
invariant-loop-sending l = record {
  came : lent l.chains.items ≡ lent l.initial.chains.items ++ received_in l.general (take l.sending-index l.sending-items);
  few : vec_len l.chains ≤ vec_len l.initial.chains + 8 * l.sending-index;
}
