-- What the functions that play a signed campaign promise (TOPLAS 1982, Theorem 2, IC1 and IC2).
use Rattle.std.specs.Prelude.{ℕ, ◌≡◌, ◌↔◌, true, false, List, None, Some}
use Rattle.label.specs.Lieutenants.{AgreeInList}
use Rattle.round.specs.Scenario.{Scenario, is_traitor}
use Rattle.world.specs.declared.verdict.Verdict.{Verdict}
use Rattle.world.specs.Agreement.{AreAlike, AreObedient}
use Rattle.signed.specs.Agreement.{IsSignedBound}

-- States that the loyal lieutenants decide on the same order, and obey a loyal commander, if there are at most m
-- traitors among at least m + 2 generals.
abbrev pub AgreeUnderSignedBound : Scenario → List ℕ → Type 0
AgreeUnderSignedBound s ds =
    IsSignedBound s.generals s.bound (is_traitor s) → AgreeInList s.generals s.commander s.order (is_traitor s) ds

-- States that the verdict is right. It says whether there are at most m traitors among at least m + 2 generals, whether
-- the loyal lieutenants decide on the same order, and whether they obey a loyal commander. `obeyed` is `None` exactly
-- if the commander is a traitor.
pub record IsSignedVerdictOn (s : Scenario) (ds : List ℕ) (v : Verdict) : Type 0 where
  pub bound : (v.bound ≡ true) ↔ IsSignedBound s.generals s.bound (is_traitor s)
  pub alike : (v.alike ≡ true) ↔ AreAlike s ds
  pub obeyed : is_traitor s s.commander ≡ false → (v.obeyed ≡ Some true) ↔ AreObedient s ds
  pub none : (v.obeyed ≡ None) ↔ (is_traitor s s.commander ≡ true)
