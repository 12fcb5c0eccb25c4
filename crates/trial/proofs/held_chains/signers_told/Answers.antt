use Rattle.std.proofs.Common.{◌≡◌, ◌∙◌, ℕ, ◌+◌, ◌*◌, ◌%◌, ◌^◌, List, [], ◌∷◌, ◌++◌, map, ap, sym, arith}
use Rattle.std.specs.List.{range_with_len}
use Rattle.std.proofs.lemmas.List.FromFn.{map-range_with_len_more}
use Rattle.mem.specs.ContextLayout.{number_told}
use Rattle.trial.proofs.held_chains.signers_told.Goals as goal

pub loop-index-preserved : goal.loop-index-preserved
loop-index-preserved c =
    let signers_of : ℕ → ℕ = λ i. number_told c.args.context.now (9 + 2 * i) % 2 ^ 16 in
    c.in_ok-push.ensures.items
    ∙ (ap (λ (l : List ℕ). l ++ c.signers_at.result ∷ []) c.loop-index.invariant
    ∙ (ap (λ (x : ℕ). map signers_of (range_with_len 0 c.loop-index.index) ++ x ∷ []) c.signers_at.ensures
    ∙ sym (map-range_with_len_more signers_of 0 c.loop-index.index c.loop-index.index (omega arith))))
