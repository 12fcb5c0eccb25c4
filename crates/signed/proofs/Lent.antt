-- The signers and the held chains to which a world returns references.
use Rattle.std.proofs.Common.{◌≡◌, ℕ, List, ap, ◌∙◌}
use Rattle.std.specs.Prelude.{flat_map}
use Rattle.round.specs.Scenario.{Scenario}
use Rattle.round.specs.Letters.{Letter}
use Rattle.signed.specs.Kind.{held_in}
use Rattle.signed.specs.Sending.{HeldChains, held_of, received_in}
use Rattle.signed.specs.Sent.{Sent, sent_in}
use Rattle.signed.proofs.Behind.{rows_in}
use Rattle.signed.proofs.Receipts.{chains_held}

-- The chains that a general holds by the chains stored are those that he holds by the letters.
pub held_here : (s : Scenario) (closed : List (List Letter)) (sent : Sent) (g : ℕ) (held : HeldChains) → sent ≡ sent_in s closed → held ≡ held_of g sent → held.chains ≡ held_in s closed g
held_here s closed sent g held chains is =
    ap (λ (h : HeldChains). h.chains) is
    ∙ (ap (λ (x : Sent). flat_map (received_in g) x) chains ∙ chains_held s.generals (sent_in s closed) g (rows_in s closed))
