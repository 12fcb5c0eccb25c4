use Rattle.std.proofs.Common.{◌≡◌, take}
use Rattle.std.specs.Prelude.{vec_len, vec_capacity}
use Rattle.outbox.proofs.rows.set_apart.Given as goal

abbrev pub invariant-loop-row : goal.invariant-loop-row
invariant-loop-row l = record {
  items : l.apart.items ≡ take l.row-index l.alike;
  len : vec_len l.apart ≡ l.row-index;
  room : vec_capacity l.apart ≡ vec_capacity l.fn.apart;
}
