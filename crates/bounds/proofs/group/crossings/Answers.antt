use Rattle.std.proofs.Common.{ℕ, ◌≡◌, ◌+◌, ◌-◌, cond, take, get_or, sym, ap, ◌∙◌, arith}
use Rattle.std.proofs.lemmas.Bool.{cond-true, cond-false}
use Rattle.std.proofs.lemmas.List.{take_all}
use Rattle.label.proofs.Bounds.{below-at}
use Rattle.bounds.specs.Stories.{group_of, is_crossing, crossings}
use Rattle.bounds.proofs.CrossingLemmas.{crossings-next, crossings-start, crossing_counted}
use Rattle.bounds.proofs.group.crossings.Goals.{then-is_crossing, else-is_crossing}
use Rattle.bounds.proofs.group.crossings.Goals as goal

pub loop-i-init : goal.loop-i-init
loop-i-init c = record { value = sym (crossings-start c.args.commander c.args.generals.now); few = omega arith; begun = omega arith; short = omega arith }

pub group_of-before-requires : goal.group_of-before-requires
group_of-before-requires c = below-at 13 c.args.generals.now (c.loop-i.i - 1) c.requires.below (omega arith)

pub group_of-after-requires : goal.group_of-after-requires
group_of-after-requires c = below-at 13 c.args.generals.now c.loop-i.i c.requires.below (omega arith)

pub loop-i-preserved : goal.loop-i-preserved
loop-i-preserved c =
    let next : crossings c.args.commander (take (c.loop-i.i + 1) c.args.generals.now) ≡ crossings c.args.commander (take c.loop-i.i c.args.generals.now) + cond (is_crossing (group_of c.args.commander (get_or c.args.generals.now (c.loop-i.i - 1) 0)) (group_of c.args.commander (get_or c.args.generals.now c.loop-i.i 0))) 1 0 =
    crossings-next c.args.commander c.loop-i.i c.args.generals.now (omega arith) (omega arith)
    in
    let test : c.is_crossing.result ≡ is_crossing (group_of c.args.commander (get_or c.args.generals.now (c.loop-i.i - 1) 0)) (group_of c.args.commander (get_or c.args.generals.now c.loop-i.i 0)) =
    crossing_counted c.group_of-before.result c.group_of-after.result (group_of c.args.commander (get_or c.args.generals.now (c.loop-i.i - 1) 0)) (group_of c.args.commander (get_or c.args.generals.now c.loop-i.i 0)) c.is_crossing.result c.is_crossing.ensures c.group_of-before.ensures c.group_of-after.ensures
    in
    elim c.if-is_crossing.branch [
      | then-is_crossing w ↦
          let one = cond-true {A = ℕ} (is_crossing (group_of c.args.commander (get_or c.args.generals.now (c.loop-i.i - 1) 0)) (group_of c.args.commander (get_or c.args.generals.now c.loop-i.i 0))) 1 0 (sym test ∙ w.if-is_crossing.true) in
          record { value = omega (arith, next, one, w.count-is); few = omega (arith, w.count-is); begun = omega arith; short = omega arith }
      | else-is_crossing w ↦
          let none = cond-false {A = ℕ} (is_crossing (group_of c.args.commander (get_or c.args.generals.now (c.loop-i.i - 1) 0)) (group_of c.args.commander (get_or c.args.generals.now c.loop-i.i 0))) 1 0 (sym test ∙ w.if-is_crossing.false) in
          record { value = omega (arith, next, none, w.count-is); few = omega (arith, w.count-is); begun = omega arith; short = omega arith }
    ]

pub returns-clause-value : goal.returns-clause-value
returns-clause-value c = c.loop-i.invariant.value ∙ ap (crossings c.args.commander) (take_all c.loop-i.i c.args.generals.now (omega arith))
