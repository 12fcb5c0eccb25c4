-- Lieutenants who deny the order of a loyal commander. It is lost if k generals are traitors and there are at most 2k
-- + m generals. The statement is the contract of a function of this crate.
use Rattle.std.specs.Prelude.{ℕ, ◌+◌, ◌*◌, ◌<◌, ◌≤◌, ◌≡◌, Bool, false, [], ◌∷◌, Some, count_by, if◌then◌else◌}
use Rattle.std.specs.List.{list_any}
use Rattle.combine.specs.Rule.{majority}
use Rattle.label.specs.Labels.{generals}
use Rattle.label.specs.Oral.{Messages, om, IsFaithful, IsLoyalLieutenant}

-- Returns the messages if the commander orders 1, each traitor sends 0 to everyone, and each loyal general relays the
-- order that he took. An order that a traitor has relayed is 0, and every other order is 1.
unfoldable pub denial : (ℕ → Bool) → Messages
denial traitor w p = Some (if list_any traitor w then 0 else 1)

-- States that the commander is loyal, at least one lieutenant is a traitor, m is at least 1, and the number of
-- generals is at most twice the number of traitors plus m.
pub record IsOutvoted (n c m : ℕ) (traitor : ℕ → Bool) : Type 0 where
  pub commander : c < n
  pub loyal : traitor c ≡ false
  pub relays : 1 ≤ m
  pub some : 1 ≤ count_by traitor (generals n)
  pub many : n ≤ 2 * count_by traitor (generals n) + m

-- States that no loyal lieutenant obeys the commander after a denial. The loyal generals are faithful and the order
-- is 1, but each loyal lieutenant decides on 0.
pub record DenialBreaks : Type 0 where
  pub faithful : (traitor : ℕ → Bool) (n c rounds g : ℕ) → traitor g ≡ false →
      IsFaithful n c rounds 1 (denial traitor) g
  pub disobeyed : (n c m p : ℕ) (traitor : ℕ → Bool) → IsOutvoted n c m traitor → IsLoyalLieutenant n c traitor p →
      om majority n (denial traitor) m (c ∷ []) p ≡ 0
