use Rattle.std.proofs.Common.{◌≡◌, ◌+◌, sym, ap, subst, ◌∙◌, arith}
use Rattle.std.specs.Prelude.{max}
use Rattle.book.specs.Table.{AreNumbersWithin}
use Rattle.book.proofs.Reread.{limits}
use Rattle.lies.specs.PlaceCounts.{most_by}
use Rattle.lies.proofs.CodeLemmas.{count_few}
use Rattle.lies.proofs.PlaceLemmas.{AreBounded, IsReached, bounded_more, max_is, reach_more, reach_none}
use Rattle.lies.proofs.places.most_places.Goals as goal

pub loop-count-init : goal.loop-count-init
loop-count-init c =
    let l : AreNumbersWithin c.args.generals c.args.bound 0 = limits c.args.generals c.args.bound 0 (sym c.is_within.ensures ∙ c.if-not-is_within.false) in
    record {
      bounded = λ d t inside few. absurd (omega arith);
      reached = reach_none c.args.generals c.args.bound c.args.most l.present;
    }

pub most_by-requires : goal.most_by-requires
most_by-requires c =
    let l : AreNumbersWithin c.args.generals c.args.bound 0 = limits c.args.generals c.args.bound 0 (sym c.is_within.ensures ∙ c.if-not-is_within.false) in
    let end = c.min-count-end.ensures in
    let test = c.loop-count-test.true in
    record { few = l.few; short = l.rounds; within = omega arith }

pub loop-count-preserved : goal.loop-count-preserved
loop-count-preserved c =
    let l : AreNumbersWithin c.args.generals c.args.bound 0 = limits c.args.generals c.args.bound 0 (sym c.is_within.ensures ∙ c.if-not-is_within.false) in
    let end = c.min-count-end.ensures in
    let test = c.loop-count-test.true in
    let larger : c.max-best.result ≡ max c.loop-count.best c.most_by.result = c.max-best.ensures ∙ max_is c.loop-count.best c.most_by.result in
    let now : c.max-best.result ≡ max c.loop-count.best (most_by c.args.generals c.args.bound c.loop-count.count) = larger ∙ ap (max c.loop-count.best) c.most_by.ensures in
    record {
      bounded = subst (AreBounded c.args.generals c.args.bound (c.loop-count.count + 1)) (sym now) (bounded_more c.args.generals c.args.bound c.loop-count.count c.loop-count.best c.loop-count.invariant.bounded);
      reached = subst (IsReached c.args.generals c.args.bound c.args.most) (sym now) (reach_more c.args.generals c.args.bound c.args.most c.loop-count.count c.loop-count.best l.present (omega arith) (omega arith) c.loop-count.invariant.reached);
    }

pub returns-clause-most : goal.returns-clause-most
returns-clause-most c within =
    let end = c.min-count-end.ensures in
    let test = c.loop-count-test.false in
    let last = c.loop-count.auto.count-end in
    record {
      bounded = λ d t inside few. c.loop-count.invariant.bounded d t inside (let h = count_few c.args.generals t in omega arith);
      commander = c.loop-count.invariant.reached.commander;
      traitor = c.loop-count.invariant.reached.traitor;
      general = c.loop-count.invariant.reached.general;
      few = c.loop-count.invariant.reached.few;
      reached = c.loop-count.invariant.reached.reached;
    }
