-- As many ticks are taken as steps.
use Rattle.std.proofs.Common.{◌-◌, inl, inr, refl, arith, [], rules}
use Rattle.std.proofs.lemmas.Option.{slice_get_read}
use Rattle.round.proofs.Stepping.{runs_steps}
use Rattle.world.proofs.Holding.{idle_ahead, acting_ahead}
use Rattle.world.proofs.parts.ahead.Goals as goal

pub overflow_sub-result : goal.overflow_sub-result
overflow_sub-result c =
    let way = c.ahead.ensures.went in
    let count = runs_steps way.0 c.in-Acting.running [] c.ahead.new.self way.1 in
    let before = c.steps-before.ensures in
    let after = c.steps.ensures in
    omega (arith, count, before, after)

pub returns-in-Acting : goal.returns-in-Acting
returns-in-Acting c =
    acting_ahead c.args.limit _ c.args.parts.now.items c.args.general c.args.general c.index_mut.result.now c.in-Acting.running c.ahead.new.self refl
    (slice_get_read c.args.parts.now.items c.len.result c.args.general c.index_mut.result.now (search rules) c.if-place-len.false c.index_mut.ensures.value)
    c.in-Acting.is c.ahead.ensures.went c.ahead.ensures.pauses c.ahead.ensures.within (λ i. c.steps.ensures i - c.steps-before.ensures i)

pub returns-in-Silent : goal.returns-in-Silent
returns-in-Silent c =
    idle_ahead c.args.limit c.args.parts.now.items c.args.general c.args.general c.index_mut.result.now refl
    (slice_get_read c.args.parts.now.items c.len.result c.args.general c.index_mut.result.now (search rules) c.if-place-len.false c.index_mut.ensures.value) (inl c.in-Silent.is)

pub returns-in-Posted : goal.returns-in-Posted
returns-in-Posted c =
    idle_ahead c.args.limit c.args.parts.now.items c.args.general c.args.general c.index_mut.result.now refl
    (slice_get_read c.args.parts.now.items c.len.result c.args.general c.index_mut.result.now (search rules) c.if-place-len.false c.index_mut.ensures.value) (inr c.in-Posted.is)
