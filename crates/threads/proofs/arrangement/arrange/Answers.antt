use Rattle.std.proofs.Common.{rules, length-append, ◌∷◌, [], ◌≡◌, ◌<◌, suc, ◌+◌, length, ap, sym, ◌∙◌, arith, below_more}
use Rattle.world.specs.Accounted.{letters_by}
use Rattle.threads.proofs.Taken.{row_long, rows_more}
use Rattle.threads.proofs.arrangement.arrange.Goals as goal

pub returns-in-None-clause-grid : goal.returns-in-None-clause-grid
returns-in-None-clause-grid c grid =
    let r = c.loop-r.r in
    let short : length (letters_by c.args.generals (r + 1) c.loop-r.left.items) < c.args.generals = search rules in
    let long = row_long c.args.generals r c.args.letters.items c.loop-r.left.items c.loop-r.invariant.left in
    let full = grid.rows r c.loop-r-test.true in
    omega arith

pub loop-r-preserved : goal.loop-r-preserved
loop-r-preserved c =
    let r = c.loop-r.r in
    let n = c.args.generals in
    let m = rows_more n r c.args.letters.items c.loop-r.left.items c.take_round.new.letters.items c.in-Some.letters.items c.loop-r.rows.items c.push.new.self.items
    c.loop-r.invariant.left c.loop-r.invariant.taken (search rules) (search rules) (search rules) in
    let long : length (letters_by n (r + 1) c.loop-r.left.items) ≡ n = search rules in
    let full : length (letters_by n (suc r) c.args.letters.items) ≡ n = sym (row_long n r c.args.letters.items c.loop-r.left.items c.loop-r.invariant.left) ∙ long in
    record {
      left = m.left_is;
      count = (let a = ap length c.in_ok-push-in-Some.ensures.items in let b = c.loop-r.invariant.count in omega (arith, length-append c.loop-r.rows.items (c.in-Some.letters.items ∷ [])));
      fewer = (let a : length c.take_round.new.letters.items + n ≡ length c.loop-r.left.items = search rules in let b = c.loop-r.invariant.fewer in omega arith);
      taken = m.rows_are;
      long = λ k lt. below_more (λ j. length (letters_by n (suc j) c.args.letters.items) ≡ n) r (λ j l. c.loop-r.invariant.long j l) full k lt;
    }
