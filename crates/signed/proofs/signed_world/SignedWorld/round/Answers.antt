-- There are few rounds.
use Rattle.std.proofs.Common.{◌≡◌, length, arith}
use Rattle.signed.proofs.Closed.{few_rounds}
use Rattle.signed.proofs.signed_world.SignedWorld.round.Goals as goal

pub overflow_cast-result : goal.overflow_cast-result
overflow_cast-result c =
    let s = c.self.inside in
    let few = few_rounds s.scenario s.closed.items s.board s.opened s.parts.items s.full s.sent.items s.signers.items c.self.invariant c.recall.ensures in
    let rounds = c.recall.ensures.rounds in
    let len : c.len.result ≡ length s.closed.items = (let o = s.closed.ok in let h = c.len.ensures in omega arith) in
    omega arith

pub overflow_add-result : goal.overflow_add-result
overflow_add-result c =
    let s = c.self.inside in
    let few = few_rounds s.scenario s.closed.items s.board s.opened s.parts.items s.full s.sent.items s.signers.items c.self.invariant c.recall.ensures in
    let rounds = c.recall.ensures.rounds in
    let len : c.len.result ≡ length s.closed.items = (let o = s.closed.ok in let h = c.len.ensures in omega arith) in
    omega arith
