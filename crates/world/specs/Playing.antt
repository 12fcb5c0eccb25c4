-- How a world is played by a schedule or a replay (own).
use Rattle.std.specs.Prelude.{ℕ, ◌≡◌, nat_lt, true, List, map, filter, Option, Some, None, length}
use Rattle.world.specs.declared.event.Event.{Event}
use Rattle.round.specs.Scenario.{Scenario, program_of}
use Rattle.world.specs.Lists.{event_of}
use Rattle.std.proofs.Common.{Vec}
use Rattle.std.specs.Global.{Global}
use Rattle.round.specs.Activation.{has_ended}
use Rattle.world.specs.Part.{Progress, Acting}

-- States that ticks of a general with this part change nothing: his activation has ended, or he is not a traitor.
abbrev pub IsStill : Option Progress → Type 0
IsStill (Some (Acting a)) = has_ended a ≡ true
IsStill _ = Unit {0}

-- Returns how many instructions a traitor's program has, or `None` for any other general.
abbrev pub program_length : Option Progress → Option ℕ
program_length (Some (Acting a)) = Some (length a.program)
program_length _ = None

-- Returns the events of a schedule's line, whose entries name generals. Entries that name no general of the campaign
-- are left out.
abbrev pub line_events : Scenario → List ℕ → List Event
line_events s line = map (λ g. event_of g (program_of s g)) (filter (λ g. nat_lt g s.generals) line)

-- Returns the lists of elements of these vectors.
abbrev pub lists_in : List (Vec ℕ Global) → List (List ℕ)
lists_in vectors = map (λ v. v.items) vectors
