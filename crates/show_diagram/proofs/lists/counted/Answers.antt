use Rattle.std.proofs.Common.{ap, arith, get_or, sym}
use Rattle.std.proofs.lemmas.Grind.{common_steps}
use Rattle.show_diagram.specs.declared.told_order.Telling.{Telling}
use Rattle.show_diagram.specs.Lists.{count_of}
use Rattle.show_diagram.proofs.Sameness.{same_is}
use Rattle.show_diagram.proofs.TallyLemmas.{count_more, count_small, nothing_told}
use Rattle.show_diagram.proofs.lists.counted.Goals as goal

pub loop-telling-preserved : goal.loop-telling-preserved
loop-telling-preserved c = λ q.
    let x : Telling = get_or c.args.tellings.now c.loop-telling.telling-index nothing_told in
    count_more q nothing_told c.args.tellings.now c.loop-telling.telling-index
    (count_of c.loop-telling.counts q) (count_of c.count_one.new.counts q) (count_of c.loop-telling.counts x) (count_of c.count_one.new.counts x)
    c.loop-telling-test.true (c.loop-telling.invariant q) (c.loop-telling.invariant x) c.in_ok-count_one.ensures.counted
    (λ same. ap (count_of c.count_one.new.counts) (sym (same_is x q same))) (λ other. c.in_ok-count_one.ensures.others q other)

pub count_one-requires : goal.count_one-requires
count_one-requires c =
    let x : Telling = get_or c.args.tellings.now c.loop-telling.telling-index nothing_told in
    let few = count_small x c.args.tellings.now c.loop-telling.telling-index (count_of c.loop-telling.counts x) (c.loop-telling.invariant x) in
    grind (arith, common_steps, few)
