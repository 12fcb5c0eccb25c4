-- The text of a campaign, for the campaigns that are computed here.
use Rattle.std.specs.Prelude.{ℕ, List, [], ◌∷◌, ◌++◌, flat_map}
use Rattle.round.specs.Scenario.{Scenario}
use Rattle.world.specs.World.{opening, run}
use Rattle.world.specs.Lists.{listed}
use Rattle.world.specs.Chronicle.{chronicle_of}
use Rattle.trace.specs.Text.{chronicle_text}

-- the text that a campaign prints under a schedule
abbrev pub printed : Scenario → List (List ℕ) → List ℕ
printed s schedule = chronicle_text (chronicle_of (run (opening s) (listed s schedule)))

-- lines, each with its LF
abbrev pub lines : List (List ℕ) → List ℕ
lines ls = flat_map (λ l. l ++ 10 ∷ []) ls
