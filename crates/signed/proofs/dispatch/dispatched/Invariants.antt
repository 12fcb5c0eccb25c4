use Rattle.std.proofs.Common.{◌≡◌, ◌≤◌, map, take, vec_len}
use Rattle.signed.specs.Entries.{dispatched}
use Rattle.signed.specs.Sending.{dispatch_of}
use Rattle.signed.proofs.dispatch.dispatched.Given as goal

abbrev pub invariant-loop-entry : goal.invariant-loop-entry
invariant-loop-entry l = record {
  sent : map dispatch_of l.chains.items ≡ dispatched l.generals l.signer.commander l.signer.general l.held.chains (take l.entry-index l.entries);
  few : vec_len l.chains ≤ l.entry-index;
}
