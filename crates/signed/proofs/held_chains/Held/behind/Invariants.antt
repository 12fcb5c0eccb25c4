use Rattle.std.proofs.Common.{◌≡◌, ◌≤◌, ◌-◌, ◌*◌, length, take, vec_len, flat_map}
use Rattle.signed.specs.Sending.{lent, received_in}
use Rattle.signed.proofs.held_chains.Held.behind.Given as goal

abbrev pub invariant-loop-round : goal.invariant-loop-round
invariant-loop-round l = record {
  came : lent l.chains.items ≡ flat_map (received_in l.general) (take l.round-index l.sent);
  before : l.earlier ≡ length (flat_map (received_in l.general) (take (l.round-index - 1) l.sent));
  few : vec_len l.chains ≤ 104 * l.round-index;
}
