-- The text of an exploration (own).
use Rattle.std.specs.Prelude.{ℕ, ◌+◌, ◌-◌, ◌^◌, nat_lt, cond, Bool, true, false, List, [], ◌∷◌, ◌++◌, flat_map, decimal, codes, Option, None, Some}
use Rattle.round.specs.Scenario.{Scenario}
use Rattle.world.specs.declared.schedule.Repeat.{Repeat}
use Rattle.world.specs.Chronicle.{verdict_of}
use Rattle.world.specs.Kind.{Kind, opening}
use Rattle.campaign_orders.specs.declared.exploration.Reach.{Reach}
use Rattle.campaign_orders.specs.declared.exploration.Reach.TheVariants.{Whole, Beyond, InPart}
use Rattle.campaign_orders.specs.Exploring.{Finding, Exploration, counted_in}
use Rattle.campaign_orders.specs.Schedules.{schedule_from}

-- Returns a space and a number in decimal.
abbrev pub further : ℕ → List ℕ
further n = codes " " ++ decimal n

-- Returns a space and the number of orders that lead to an outcome. From 2 ^ 64 - 1 on, where counting stops, it is
-- `more than 18446744073709551614`.
unfoldable pub count_text : ℕ → List ℕ
count_text n = cond (nat_lt n (2 ^ 64 - 1)) (further n) (codes " more than 18446744073709551614")

-- Returns a space and an entry of a schedule, such as ` 2*14`.
abbrev pub entry_text : Repeat → List ℕ
entry_text r = codes " " ++ decimal r.general ++ codes "*" ++ decimal r.times

-- Returns a line of a schedule's text, such as `2*14 3*9`, and an LF.
abbrev pub line_text : List Repeat → List ℕ
line_text [] = codes "\n"
line_text (r ∷ line) = decimal r.general ++ codes "*" ++ decimal r.times ++ flat_map entry_text line ++ codes "\n"

-- Returns the text of a schedule, with a line for each round.
abbrev pub schedule_text : List (List Repeat) → List ℕ
schedule_text lines = flat_map line_text lines

-- Returns a line with the number of a round and its schedule entries, such as `round 1 2*14 3*9`.
abbrev pub round_text : ℕ → List Repeat → List ℕ
round_text round line = codes "round" ++ further round ++ flat_map entry_text line ++ codes "\n"

-- Returns a line for each of these rounds, of which the first has the number `round`.
abbrev pub rounds_text : ℕ → List (List Repeat) → List ℕ
rounds_text round [] = []
rounds_text round (line ∷ lines) = round_text round line ++ rounds_text (round + 1) lines

-- Returns `yes` or `no`.
abbrev pub yes_no : Bool → List ℕ
yes_no true = codes "yes"
yes_no false = codes "no"

-- Returns `yes` or `no`, or `-` for `None`.
abbrev pub yes_no_none : Option Bool → List ℕ
yes_no_none None = codes "-"
yes_no_none (Some b) = yes_no b

-- Returns the line of an outcome: how many orders lead to it, whether the loyal lieutenants decide alike and obey, and
-- the decision of each lieutenant, ascending.
abbrev pub outcome_text : ℕ → Bool → Option Bool → List ℕ → List ℕ
outcome_text count alike obeyed ds =
    codes "outcome" ++ count_text count ++ codes " alike " ++ yes_no alike ++ codes " obeyed " ++ yes_no_none obeyed
    ++ codes " decisions" ++ flat_map further ds ++ codes "\n"

-- Returns the line of an outcome, followed by the lines of the schedule for its example.
abbrev pub finding_text : Kind → Scenario → Finding → List ℕ
finding_text K s f =
    outcome_text f.count (verdict_of s f.decisions).alike (verdict_of s f.decisions).obeyed f.decisions
    ++ rounds_text 1 (schedule_from K (opening K s) f.example)

-- Returns the first line of an exploration's text. It says how many orders there are, or that there are more than were
-- counted or can be counted.
abbrev pub head_text : Reach → ℕ → List ℕ
head_text Whole count = codes "orders" ++ further count ++ codes "\n"
head_text Beyond count = codes "orders more than 18446744073709551614\n"
head_text InPart count = codes "orders more than" ++ further count ++ codes "\n"

-- Returns the text of an exploration: the first line, and then each outcome with a schedule.
abbrev pub exploration_text : Kind → Scenario → Exploration → List ℕ
exploration_text K s e = head_text e.reach (counted_in e.findings) ++ flat_map (finding_text K s) e.findings
