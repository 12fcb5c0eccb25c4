-- Parsing the text of a schedule gives this schedule again (own). The statement is the contract of a function of this
-- crate.
use Rattle.std.specs.Prelude.{ℕ, ◌≡◌, ◌≤◌, List, length, Ok}
use Rattle.std.specs.List.{AllByRecursion}
use Rattle.world.specs.declared.schedule.Repeat.{Repeat}
use Rattle.campaign_orders.specs.Text.{schedule_text}
use Rattle.trace.specs.Schedules.{schedule_told}

-- States that an entry has the number of a general, from 0 to 12, and 1 to 4,096 turns.
pub record IsEntry (r : Repeat) : Type 0 where
  pub general : r.general ≤ 12
  pub least : 1 ≤ r.times
  pub most : r.times ≤ 4096

-- States that parsing the text of a schedule gives this schedule again. The schedule has at most five lines, and its
-- text at most 1,048,576 bytes.
abbrev pub SchedulesAreRead : Type 0
SchedulesAreRead =
    (lines : List (List Repeat)) → AllByRecursion (AllByRecursion IsEntry) lines → length lines ≤ 5 →
    length (schedule_text lines) ≤ 1048576 →
    schedule_told (schedule_text lines) ≡ Ok lines

-- States that parsing the text gives this schedule.
abbrev pub IsReadAs : List ℕ → List (List Repeat) → Type 0
IsReadAs text schedule = schedule_told text ≡ Ok schedule
