-- The search over all sets of traitors.
use Rattle.std.specs.Prelude.{ℕ, ◌≡◌, nat_lt, Bool, if◌then◌else◌, List, count_by, filter, Option, None, Some}
use Rattle.arrayvec.specs.ArrayVec.{ArrayVec}
use Rattle.label.specs.Labels.{generals}
use Rattle.lies.specs.Attempts.{Succeeds}
use Rattle.lies.specs.declared.attempt.Success.{Success}
use Rattle.lies.specs.declared.found.Found.{Found}

-- Returns the success of a break, if one was found.
abbrev pub success_of : Option Found → Option Success
success_of None = None
success_of (Some found) = Some found.success

-- Returns the best break so far, or the success of these traitors if it is cheaper.
abbrev pub cheaper_break : Option Found → ArrayVec ℕ → Option Success → Option Found
cheaper_break best traitors None = best
cheaper_break None traitors (Some success) = Some (record { traitors = traitors; success = success })
cheaper_break (Some best) traitors (Some success) = if nat_lt success.attacks best.success.attacks
    then Some (record { traitors = traitors; success = success }) else Some best

-- States that a break that was found is one by `count` of the generals.
pub record IsFoundAmong (f : List ℕ → ℕ) (n m c count : ℕ) (found : Found) : Type 0 where
  pub traitor : ℕ → Bool
  pub listed : found.traitors.items ≡ filter traitor (generals n)
  pub many : count_by traitor (generals n) ≡ count
  pub succeeds : Succeeds f n m c found.traitors.items found.success
