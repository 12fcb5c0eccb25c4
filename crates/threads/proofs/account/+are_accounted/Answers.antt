use Rattle.std.proofs.Common.{rules, ◌<◌, length, get_or, sym, ap, ◌∙◌, arith}
use Rattle.threads.proofs.Cuts.{both_ways}
use Rattle.threads.proofs.account.+are_accounted.Goals as goal

pub holds_round-requires-clause-passed : goal.holds_round-requires-clause-passed
holds_round-requires-clause-passed g t c =
    let counted = g.met.D.Delivered.counted c.args.scenario.now c.args.rows.now c.args.told.now c.requires.told in
    let at = c.requires.at in
    omega arith

pub returns-then-not-branch : goal.returns-then-not-branch
returns-then-not-branch g t c =
    let lt : c.args.at < length c.args.rows.now = (let a = c.requires.at in let b = c.if-from-rows.false in let d = c.from.ensures in omega arith) in
    let ways = both_ways g.D.Delivered.kind c.args.scenario.now c.args.rows.now c.args.at c.args.rest.now c.index-rows-from.result lt (c.index-rows-from.is ∙ ap (λ k. get_or c.args.rows.now k c.index-rows-from.result) c.from-2.ensures) c.count_accesses.result c.split_at.result.0.now c.split_at.result.1.now c.letters-letters.result.now (search rules) c.count_accesses.ensures c.split_at.ensures.front c.split_at.ensures.back in (
      λ f. cc,
      λ h. sym c.if-not-branch.true ∙ (c.in_ok-holds_round.ensures c.args.rows.now c.requires.told).1 (ways.0 h).0,
    )

pub returns : goal.returns
returns g t c =
    let lt : c.args.at < length c.args.rows.now = (let a = c.requires.at in let b = c.if-from-rows.false in let d = c.from.ensures in omega arith) in
    let ways = both_ways g.D.Delivered.kind c.args.scenario.now c.args.rows.now c.args.at c.args.rest.now c.index-rows-from.result lt (c.index-rows-from.is ∙ ap (λ k. get_or c.args.rows.now k c.index-rows-from.result) c.from-2.ensures) c.count_accesses.result c.split_at.result.0.now c.split_at.result.1.now c.letters-letters.result.now (search rules) c.count_accesses.ensures c.split_at.ensures.front c.split_at.ensures.back in (
      λ is. ways.1 ((c.in_ok-holds_round.ensures c.args.rows.now c.requires.told).0 c.if-not-branch.false) (c.in_ok-more.ensures.0 is),
      λ h. c.in_ok-more.ensures.1 (ways.0 h).1,
    )
