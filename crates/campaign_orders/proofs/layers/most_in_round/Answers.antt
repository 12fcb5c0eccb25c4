-- One more general's program is counted.
use Rattle.std.proofs.Common.{◌≡◌, ◌∙◌, ◌*◌, None, ap, length, arith}
use Rattle.std.specs.Prelude.{sum_by}
use Rattle.std.proofs.lemmas.List.{take_all}
use Rattle.std.proofs.lemmas.List.Sums.{sum_by_more}
use Rattle.campaign_orders.specs.Listing.{instructions}
use Rattle.campaign_orders.proofs.layers.most_in_round.Goals as goal

pub loop-general-preserved : goal.loop-general-preserved
loop-general-preserved c =
    let programs = c.args.scenario.now.programs in
    let whole = c.generals-general-end.ensures.whole in
    let same = c.generals-general-end.ensures.same in
    let long : length programs ≡ c.args.scenario.now.generals = whole.programs in
    let more = sum_by_more instructions programs c.loop-general.general None (omega arith) in
    let sum = c.loop-general.invariant.sum in
    let few = c.loop-general.invariant.few in
    let count = c.instructions_of-sum.ensures.count in
    let bound = c.instructions_of-sum.ensures.few in
    record { sum = omega arith; few = omega arith }

pub returns : goal.returns
returns c =
    let programs = c.args.scenario.now.programs in
    let whole = c.generals-general-end.ensures.whole in
    let same = c.generals-general-end.ensures.same in
    let long : length programs ≡ c.args.scenario.now.generals = whole.programs in
    let all : c.loop-general.sum ≡ sum_by instructions programs = c.loop-general.invariant.sum ∙ ap (sum_by instructions) (take_all c.loop-general.general programs (omega arith)) in
    let from : c.from.result ≡ c.args.scenario.now.generals = omega arith in
    c.product.ensures ∙ (λ i. from i * all i)
