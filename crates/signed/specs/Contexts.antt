-- The context of a general in a signed campaign: what he receives at the start of a round (own).
use Rattle.std.specs.Prelude.{ℕ, ◌-◌, ◌^◌, List, [], ◌∷◌, length, flat_map, sum_by}
use Rattle.signed.specs.Chains.{Chain}

-- Returns the set of a chain's signers as a number: bit `g` is set if general `g` signed the chain.
abbrev pub signer_bits : Chain → ℕ
signer_bits ch = sum_by (λ g. 2 ^ g) ch.signers

-- Returns the numbers of a context, each of 32 bits. The first eight describe the campaign, the general and the round.
-- Then there are two for each chain that the general holds: its order and the set of its signers. The numbers after
-- these are 0.
abbrev pub signed_context_numbers : ℕ → ℕ → ℕ → ℕ → ℕ → List Chain → List ℕ
signed_context_numbers n m c g round held =
    n ∷ m ∷ g ∷ c ∷ round ∷ length held ∷ (n - 1) ∷ 1 ∷ flat_map (λ ch. ch.order ∷ signer_bits ch ∷ []) held
