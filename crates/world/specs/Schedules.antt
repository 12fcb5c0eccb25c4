-- Schedules as lists of generals' numbers (own).
use Rattle.std.specs.Prelude.{ℕ, List, map, flat_map, replicate}
use Rattle.world.specs.declared.schedule.Repeat.{Repeat}

-- Returns for each entry of a line the general's number, as many times as the entry says.
abbrev pub entries_of : List Repeat → List ℕ
entries_of repeats = flat_map (λ r. replicate r.times r.general) repeats

-- Returns for each line of a schedule the generals' numbers, as many times as its entries say.
abbrev pub lines_by : List (List Repeat) → List (List ℕ)
lines_by schedule = map entries_of schedule
