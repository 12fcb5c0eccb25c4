-- Defines which tasks of the command line are valid (own).
use Rattle.std.specs.Prelude.{◌≤◌, ◌<◌, ◌-◌, ◌^◌, ⊤, IfSome}
use Rattle.surveyor.specs.declared.task.Asked.{Asked}
use Rattle.surveyor.specs.declared.task.Asked.TheVariants.{Survey as Surveys, Campaign, Break, Merge}
use Rattle.surveyor.specs.declared.task.Survey.{Survey}

-- States that a survey is valid: no range is empty, it has 2 to 13 generals, its patience is 1 to 4,096 steps if it has
-- one, and its last seed is less than 2^64 - 1.
pub record IsSurvey (s : Survey) : Type 0 where
  pub some : s.generals.low ≤ s.generals.high
  pub least : 2 ≤ s.generals.low
  pub most : s.generals.high ≤ 13
  pub bounds : s.bound.low ≤ s.bound.high
  pub counts : s.traitors.low ≤ s.traitors.high
  pub waits : IfSome s.patience (λ steps. (1 ≤ steps) × (steps ≤ 4096))
  pub ordered : s.first ≤ s.last
  pub inside : s.last < 2 ^ 64 - 1

-- States that a task is valid: the survey in it is. A task to sum files is always valid.
abbrev pub IsAsked : Asked → Type 0
IsAsked (Surveys s) = IsSurvey s
IsAsked (Campaign c) = IsSurvey c.survey
IsAsked (Break s is_table) = IsSurvey s
IsAsked (Merge m) = ⊤
