-- A loyal general's letter follows from his context.
use Rattle.std.proofs.Common.{◌+◌, length, ap, ◌∙◌, arith}
use Rattle.round.proofs.Contexts.{context_is}
use Rattle.world.proofs.Hearing.{told_shape, told_own, told_ok}
use Rattle.world.proofs.letters.loyal.Goals as goal

pub loyal_letter-requires-clause-context : goal.loyal_letter-requires-clause-context
loyal_letter-requires-clause-context c =
    let is = context_is c.args.scenario.now c.args.closed.now c.args.general in
    ap length (c.in_ok-context.ensures.context c.args.closed.now c.requires.told) ∙ is.long

pub loyal_letter-requires-clause-shape : goal.loyal_letter-requires-clause-shape
loyal_letter-requires-clause-shape c =
    told_shape c.args.scenario.now c.args.closed.now c.args.general c.from.result (length c.args.closed.now + 1) c.in_ok-context.context.items c.recall.ensures c.requires.inside c.requires.left
    (c.in_ok-context.ensures.context c.args.closed.now c.requires.told) c.from.ensures (omega arith)

pub loyal_letter-requires-clause-own : goal.loyal_letter-requires-clause-own
loyal_letter-requires-clause-own c =
    told_own c.args.scenario.now c.args.closed.now c.args.general c.from.result (length c.args.closed.now + 1) c.in_ok-context.context.items c.recall.ensures c.requires.inside c.requires.left
    (c.in_ok-context.ensures.context c.args.closed.now c.requires.told) c.from.ensures (omega arith)

pub returns : goal.returns
returns c =
    told_ok c.loyal_letter.result c.args.scenario.now c.args.closed.now c.args.general c.from.result (length c.args.closed.now + 1) c.in_ok-context.context.items c.recall.ensures c.requires.inside c.requires.left
    (c.in_ok-context.ensures.words c.args.closed.now c.requires.told) (c.in_ok-context.ensures.context c.args.closed.now c.requires.told) c.from.ensures (omega arith) c.loyal_letter.ensures
