use Rattle.std.proofs.Common.{◌<◌, ◌^◌, ℕ, get_or, arith, subst}
use Rattle.std.proofs.lemmas.List.{get_or_default}
use Rattle.board.proofs.kept_facts.recall_board.Goals as goal

pub returns : goal.returns
returns c = record {
  long = c.requires;
  each = λ k d lt.
      let fits = c.type_inv.words k in
      let small : get_or c.args.words.now k 0 < 2 ^ 64 = omega arith in
      subst (λ (n : ℕ). n < 2 ^ 64) (get_or_default c.args.words.now k 0 d lt) small;
}
