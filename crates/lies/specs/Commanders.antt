-- The search over the commanders asked about.
use Rattle.std.specs.Prelude.{ℕ, nat_lt, if◌then◌else◌, List, Option, None, Some}
use Rattle.lies.specs.Asked.{IsAsked}
use Rattle.lies.specs.Search.{IsFoundAmong}
use Rattle.lies.specs.declared.attempt.Success.{Success}
use Rattle.lies.specs.declared.found.Found.{Found}
use Rattle.lies.specs.declared.found.FoundUnder.{FoundUnder}

-- Returns the success of a break under some commander, if one was found.
abbrev pub success_under : Option FoundUnder → Option Success
success_under None = None
success_under (Some under) = Some under.found.success

-- Returns the best break so far, or the break found under this commander if it is cheaper.
abbrev pub cheaper_under : Option FoundUnder → ℕ → Option Found → Option FoundUnder
cheaper_under best commander None = best
cheaper_under None commander (Some found) = Some (record { commander = commander; found = found })
cheaper_under (Some best) commander (Some found) = if nat_lt found.success.attacks best.found.success.attacks
    then Some (record { commander = commander; found = found }) else Some best

-- States that a break that was found is one by `count` of the generals, under a commander asked about.
pub record IsFoundUnder (f : List ℕ → ℕ) (n m : ℕ) (given : Option ℕ) (count : ℕ) (under : FoundUnder) : Type 0 where
  pub asked : IsAsked n given under.commander
  pub among : IsFoundAmong f n m under.commander count under.found
