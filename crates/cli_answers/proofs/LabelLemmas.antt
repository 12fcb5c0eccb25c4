-- The labels that a general relays, as lines need them.
use Rattle.std.proofs.Common.{◌≡◌, ℕ, zero, suc, ◌-◌, Bool, true, false, List, [], ◌∷◌, None, Some, arith, refl}
use Rattle.std.proofs.lemmas.Bool.Decides.{nat_tests}
use Rattle.std.specs.Prelude.{◌==◌, ◌&&◌, if◌then◌else◌, slice_get}
use Rattle.label.specs.Labels.{labels}
use Rattle.label.specs.Relay.{relay}
use Rattle.cli_answers.specs.declared.position.Held.{Held}
use Rattle.cli_answers.specs.Labels.{own_label, shape_of}

at_own : (b : Bool) (rank : ℕ) → slice_get {X = List ℕ} (if b then [] ∷ [] else []) rank ≡ (if b && rank == 0 then Some [] else None)
at_own true zero = refl
at_own true (suc k) =
    let other : (suc k == 0) ≡ false = grind (arith, nat_tests) in
    rw other refl
at_own false rank = refl

-- Proves which label the commander relays.
pub own_relayed : (h : Held) (rank : ℕ) → (h.general == h.commander) ≡ true → slice_get (relay (shape_of h)) rank ≡ own_label h.round rank
own_relayed h rank e = rw e (at_own (h.round == 1) rank)

-- Proves which labels a lieutenant relays.
pub relayed_by : (h : Held) → (h.general == h.commander) ≡ false → relay (shape_of h) ≡ labels h.generals h.commander h.general (h.round - 1)
relayed_by h e = rw e refl
