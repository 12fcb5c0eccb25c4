use Rattle.std.proofs.Common.{◌≡◌, true, false, ap, sym, ◌∙◌, Some, refl}
use Rattle.std.specs.Prelude.{slice_get}
use Rattle.std.proofs.lemmas.Option.{slice_get_read}
use Rattle.round.specs.Letters.{Letter}
use Rattle.threads.proofs.Taken.{found_at, none_more}
use Rattle.threads.proofs.arrangement.index_of.Goals as goal
use Rattle.threads.proofs.arrangement.index_of.Goals.{else-letter-general-via-then-letter-general+else-letter-round, else-letter-general-via-else-letter-general}
use Rattle.world.proofs.Arranged.{by_false, by_true, is_by}

pub returns-then-letter-round-clause-found : goal.returns-then-letter-round-clause-found
returns-then-letter-round-clause-found c =
    let x = c.index-letters-i.result in
    let at : slice_get c.args.letters.now c.loop-i.i ≡ Some x = slice_get_read c.args.letters.now _ c.loop-i.i x refl c.loop-i-test.true c.index-letters-i.is in
    let does : is_by c.args.general c.args.round x ≡ true = by_true c.args.general c.args.round x (ap (λ (l : Letter). l.general) (sym c.letter.view_is) ∙ c.if-letter-general.true) (ap (λ (l : Letter). l.round) (sym c.letter.view_is) ∙ c.if-letter-round.true) in
    (found_at (is_by c.args.general c.args.round) c.args.letters.now c.loop-i.i x c.loop-i.invariant at does).0

pub returns-then-letter-round-clause-left : goal.returns-then-letter-round-clause-left
returns-then-letter-round-clause-left c =
    let x = c.index-letters-i.result in
    let at : slice_get c.args.letters.now c.loop-i.i ≡ Some x = slice_get_read c.args.letters.now _ c.loop-i.i x refl c.loop-i-test.true c.index-letters-i.is in
    let does : is_by c.args.general c.args.round x ≡ true = by_true c.args.general c.args.round x (ap (λ (l : Letter). l.general) (sym c.letter.view_is) ∙ c.if-letter-general.true) (ap (λ (l : Letter). l.round) (sym c.letter.view_is) ∙ c.if-letter-round.true) in
    (found_at (is_by c.args.general c.args.round) c.args.letters.now c.loop-i.i x c.loop-i.invariant at does).1

pub loop-i-preserved : goal.loop-i-preserved
loop-i-preserved c =
    let x = c.index-letters-i.result in
    let at : slice_get c.args.letters.now c.loop-i.i ≡ Some x = slice_get_read c.args.letters.now _ c.loop-i.i x refl c.loop-i-test.true c.index-letters-i.is in
    let isnt : is_by c.args.general c.args.round x ≡ false = by_false c.args.general c.args.round x (λ a b. elim c.else-letter-general.branch [
      | else-letter-general-via-then-letter-general+else-letter-round w ↦ w.if-letter-round.false (ap (λ (l : Letter). l.round) c.letter.view_is ∙ b)
      | else-letter-general-via-else-letter-general w ↦ w.if-letter-general.false (ap (λ (l : Letter). l.general) c.letter.view_is ∙ a)
    ]) in
    none_more (is_by c.args.general c.args.round) c.args.letters.now c.loop-i.i x c.loop-i.invariant at isnt
