use Rattle.std.proofs.Common.{◌≡◌, ◌<◌, refl, arith, bit_and}
use Rattle.std.proofs.lemmas.Nat.{and_le_l}
use Rattle.absmem.specs.Members.{word_at}
use Rattle.absmem.specs.Laws.{length-members}
use Rattle.absmem.proofs.Members.{words_set, both_more, left_more, both_done}
use Rattle.absmem.proofs.cell_set.CellSet.intersect.Goals as goal

pub loop-number-init : goal.loop-number-init
loop-number-init c = record {
  kept = c.self.invariant;
  done = λ k lt. absurd (omega arith);
  left = λ k le. refl;
}

pub invariant_of-self : goal.invariant_of-self
invariant_of-self c = c.loop-number.invariant.kept

pub loop-number-preserved : goal.loop-number-preserved
loop-number-preserved c =
    let words = c.loop-number.self-inside.words in
    let number = c.loop-number.number in
    let lt : c.loop-number.number < 8 = omega arith in
    let x = bit_and (word_at words number) (word_at c.other.inside.words number) in
    record {
      kept = words_set words number x c.loop-number.invariant.kept lt (omega (arith, c.loop-number.invariant.kept.each number lt, and_le_l (word_at words number) (word_at c.other.inside.words number)));
      done = both_more c.self.inside.words c.other.inside.words words number lt c.loop-number.invariant.kept.count x refl c.loop-number.invariant.done c.loop-number.invariant.left;
      left = left_more c.self.inside.words c.other.inside.words words number lt c.loop-number.invariant.kept.count x c.loop-number.invariant.left;
    }

pub returns-clause-size : goal.returns-clause-size
returns-clause-size c = length-members c.loop-number.self-inside.words

pub returns-clause-both : goal.returns-clause-both
returns-clause-both c k =
    let eight : c.loop-number.number ≡ 8 = omega arith in
    both_done c.args.self.now c.args.other.now c.self.inside.words c.other.inside.words c.loop-number.self-inside.words c.self.view_is c.other.view_is
    (λ j lt. c.loop-number.invariant.done j (omega arith)) k
