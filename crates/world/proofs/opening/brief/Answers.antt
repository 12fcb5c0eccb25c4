-- Contexts are written one by one.
use Rattle.std.proofs.Common.{◌≡◌, ◌<◌, ◌≤◌, length, arith}
use Rattle.world.proofs.Briefed.{blank_at, brief_more, brief_all}
use Rattle.world.proofs.opening.brief.Goals as goal

pub brief_one-requires-clause-blank : goal.brief_one-requires-clause-blank
brief_one-requires-clause-blank c =
    let s = c.args.scenario.now in
    let le : length c.args.closed.now ≤ s.bound = let a = c.if-closed-from.false in let b = c.from.ensures in let d = c.bound.ensures.same in omega arith in
    let lt : c.loop-general.general < s.generals = let a = c.loop-general-test.true in let b = c.generals-general-end.ensures.same in omega arith in
    blank_at s c.args.closed.now le c.loop-general.general c.loop-general.parts.items lt c.loop-general.invariant

pub loop-general-preserved : goal.loop-general-preserved
loop-general-preserved c =
    let s = c.args.scenario.now in
    let le : length c.args.closed.now ≤ s.bound = let a = c.if-closed-from.false in let b = c.from.ensures in let d = c.bound.ensures.same in omega arith in
    let lt : c.loop-general.general < s.generals = let a = c.loop-general-test.true in let b = c.generals-general-end.ensures.same in omega arith in
    brief_more s c.args.closed.now le c.loop-general.general c.loop-general.parts.items c.brief_one.new.parts.items lt c.loop-general.invariant c.brief_one.ensures

pub returns : goal.returns
returns c =
    let s = c.args.scenario.now in
    let le : length c.args.closed.now ≤ s.bound = let a = c.if-closed-from.false in let b = c.from.ensures in let d = c.bound.ensures.same in omega arith in
    let all : c.loop-general.general ≡ s.generals = let a = c.loop-general-test.false in let b = c.generals-general-end.ensures.same in let d = c.loop-general.auto.general-end in omega arith in
    brief_all s c.args.closed.now le c.loop-general.general c.loop-general.parts.items all c.loop-general.invariant
