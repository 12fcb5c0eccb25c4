use Rattle.std.proofs.Common.{◌≡◌, ◌+◌, length, take, refl, arith}
use Rattle.std.proofs.lemmas.List.{length-take-le}
use Rattle.threads.proofs.Whose.{holds}
use Rattle.threads.proofs.account.holds_letter.Goals as goal

pub is_briefed-requires-clause-own : goal.is_briefed-requires-clause-own
is_briefed-requires-clause-own g c =
    let stands = c.if-not-stands.ensures.0 refl in
    let wide = c.from-round.ensures in
    record {
      general = stands.general;
      round_is = (let round = stands.round_is in omega arith);
      program = stands.program;
    }

pub returns : goal.returns
returns g c rows told =
    let s = c.args.scenario.now in
    let front = take c.args.rounds rows in
    let counted = g.met.D.Delivered.counted s rows c.args.told.now told in
    let long : length front ≡ c.args.rounds = length-take-le c.args.rounds rows (let a = c.requires.passed in omega arith) in
    let wide = c.from-round.ensures in
    holds g.D.Delivered.kind s front c.args.piece.now c.args.general (c.from-round.result + 1) c.args.letter.now c.recall.ensures
    (omega arith) (c.if-not-stands.ensures.0 refl) _ (c.in_ok-is_briefed.ensures rows told)
