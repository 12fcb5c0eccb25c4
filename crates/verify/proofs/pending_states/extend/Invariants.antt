use Rattle.std.proofs.Common.{◌≡◌, ◌≤◌, ◌-◌, ◌++◌, replicate, None}
use Rattle.std.specs.Vec.{vec_len, vec_capacity}
use Rattle.verify.proofs.pending_states.extend.Given as goal

abbrev pub invariant-loop-states : goal.invariant-loop-states
invariant-loop-states l = record {
  items : l.states.items ≡ l.initial.states.items ++ replicate (vec_len l.states - vec_len l.initial.states) None;
  before : vec_len l.initial.states ≤ vec_len l.states;
  behind : vec_len l.states ≤ l.unit;
  capacity : vec_capacity l.states ≡ vec_capacity l.initial.states;
}

abbrev pub decreases-loop-states : goal.decreases-loop-states
decreases-loop-states l = l.unit - vec_len l.states
