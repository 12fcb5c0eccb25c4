-- There are few rounds.
use Rattle.std.proofs.Common.{◌≡◌, length, arith}
use Rattle.world.specs.World.{oral_kind}
use Rattle.world.proofs.Holding.{held_few}
use Rattle.world.proofs.world.World.round.Goals as goal

pub overflow_cast-result : goal.overflow_cast-result
overflow_cast-result c =
    let s = c.self.inside in
    let few = held_few oral_kind s.scenario s.closed.items s.board s.opened s.parts.items s.full c.recall.ensures c.self.invariant.0 in
    let rounds = c.recall.ensures.rounds in
    let len : c.len.result ≡ length s.closed.items = (let o = s.closed.ok in let h = c.len.ensures in omega arith) in
    omega arith

pub overflow_add-result : goal.overflow_add-result
overflow_add-result c =
    let s = c.self.inside in
    let few = held_few oral_kind s.scenario s.closed.items s.board s.opened s.parts.items s.full c.recall.ensures c.self.invariant.0 in
    let rounds = c.recall.ensures.rounds in
    let len : c.len.result ≡ length s.closed.items = (let o = s.closed.ok in let h = c.len.ensures in omega arith) in
    omega arith
