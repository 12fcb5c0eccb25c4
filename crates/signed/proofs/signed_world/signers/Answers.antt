-- One more signer is made.
use Rattle.std.proofs.Common.{ℕ, ◌∷◌, [], ◌++◌, sym, ◌∙◌, arith}
use Rattle.std.proofs.lemmas.List.FromFn.{map-range_with_len_more}
use Rattle.signed.proofs.signed_world.signers.Goals as goal

pub loop-general-preserved : goal.loop-general-preserved
loop-general-preserved c =
    c.in_ok-push.ensures.items
    ∙ ((λ i. c.loop-general.invariant i ++ c.of.ensures i ∷ [])
    ∙ sym (map-range_with_len_more (λ (g : ℕ). record { general = g; commander = c.args.commander }) 0 c.loop-general.general c.loop-general.general (omega arith)))
