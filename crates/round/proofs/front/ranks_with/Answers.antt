use Rattle.std.proofs.Common.{◌≡◌, ◌<◌, ◌+◌, ◌*◌, ◌^◌, ◌∙◌, ℕ, get_or, cond, sym, ap, subst, arith, length-set}
use Rattle.std.specs.Prelude.{nat_lt}
use Rattle.round.proofs.Prolonging.{set_more}
use Rattle.round.proofs.front.ranks_with.Goals as goal

pub loop-x-preserved : goal.loop-x-preserved
loop-x-preserved c = record {
  wide = length-set c.loop-x.ranks c.loop-x.x _ ∙ c.loop-x.invariant.wide;
  done = λ x t less e fits. set_more c.loop-x.ranks c.loop-x.x x c.rank_with.result (get_or c.args.old x 0 * c.args.width + t) (let wide = c.loop-x.invariant.wide in let l = c.loop-x-test.true in omega arith) less
      (λ lt. c.loop-x.invariant.done x t lt e fits)
      (λ same. subst (λ (y : ℕ). t + cond {A = ℕ} (nat_lt y c.args.general) 1 0 ≡ c.args.below → get_or c.args.old y 0 * c.args.width + t < 2 ^ 32 → c.rank_with.result ≡ get_or c.args.old y 0 * c.args.width + t) (sym same)
      (λ e' fits'. c.rank_with.ensures t (ap (λ (g : ℕ). t + cond {A = ℕ} (nat_lt c.loop-x.x g) 1 0) c.from.ensures ∙ e') fits') e fits);
}

pub returns-clause-ranks : goal.returns-clause-ranks
returns-clause-ranks c = λ x t less e fits. c.loop-x.invariant.done x t (let f = c.loop-x-test.false in omega arith) e fits
