use Rattle.std.proofs.Common.{◌≡◌, ap, sym, ◌∙◌, None, arith, length, length-append, ◌∷◌, []}
use Rattle.world.specs.Accounted.{letter_by}
use Rattle.threads.proofs.Taken.{row_same, row_short, row_more}
use Rattle.threads.proofs.arrangement.take_round.Goals as goal

pub returns-in-None-clause-row : goal.returns-in-None-clause-row
returns-in-None-clause-row c =
    let g = c.loop-general.general in
    let old = c.args.letters.now.items in
    let none : letter_by g c.args.round old ≡ None = sym (row_same g c.args.round old) ∙ (ap (letter_by g c.args.round) (sym c.loop-general.invariant.left) ∙ (sym c.take.ensures.found ∙ c.in-None.is)) in
    row_short c.args.generals g c.args.round old c.loop-general-test.true none

pub loop-general-preserved : goal.loop-general-preserved
loop-general-preserved c =
    let r = row_more c.loop-general.general c.args.round c.args.letters.now.items c.loop-general.letters.items c.loop-general.row.items c.take.new.letters.items c.push.new.self.items c.in-Some.letter
    c.loop-general.invariant.left c.loop-general.invariant.taken (sym c.in-Some.is ∙ c.take.ensures.found) c.in-Some.ensures.left c.in_ok-push-in-Some.ensures.items in
    record {
      left = r.left_is;
      fewer = (let a = c.in-Some.ensures.fewer in let b = c.loop-general.invariant.fewer in omega arith);
      taken = r.row_is;
      long = (let a = ap length c.in_ok-push-in-Some.ensures.items in let b = c.loop-general.invariant.long in omega (arith, length-append c.loop-general.row.items (c.in-Some.letter ∷ [])));
    }
