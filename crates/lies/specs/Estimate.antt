-- How long the search for a break takes, counted in its steps. A step is a list of orders that the rule combines, or a
-- label with no relays left. This is an estimate: it lets the lieutenants follow each loyal sender of a label, as they do
-- where the traitors are few.
use Rattle.std.specs.Prelude.{ℕ, zero, suc, ◌+◌, ◌-◌, ◌*◌, ◌^◌, Bool, true, false, if◌then◌else◌, min, sum_by, unwrap_or, Option, None, Some}
use Rattle.label.specs.Labels.{generals}
use Rattle.book.specs.Grammar.{is_within}

-- Returns how many orders a loyal general may take from the sender of a label, if orders are 0 or 1.
abbrev pub orders_taken : Bool → ℕ
orders_taken is_traitor = if is_traitor then 2 else 1

-- Returns the steps to find a plan for a label with k relays left, if l loyal generals and t traitors are off it.
-- `is_traitor` is whether its sender is a traitor. Each general off the label has one of `votes` votes about it in the
-- lists of the lieutenants aimed at: two for one lieutenant, and four for two.
unfoldable pub plan_steps : ℕ → ℕ → Bool → ℕ → ℕ → ℕ
plan_steps votes zero is_traitor l t = 1
plan_steps votes (suc k) is_traitor l t = orders_taken is_traitor ^ l * votes ^ t
    + (l * (orders_taken is_traitor * votes) * plan_steps votes k false (l - 1) t
    + t * votes * plan_steps votes k true l (t - 1))

-- Returns how many sets of k out of n generals there are.
unfoldable pub sets : ℕ → ℕ → ℕ
sets n zero = 1
sets zero (suc k) = 0
sets (suc n) (suc k) = sets n k + sets n (suc k)

-- Returns the steps for all sets of t traitors among h lieutenants under a loyal commander: two attempts on each loyal
-- lieutenant.
abbrev pub steps_under_loyal : ℕ → ℕ → ℕ → ℕ
steps_under_loyal m h t = sets h t * (2 * (h - t)) * plan_steps 2 m false (h - t) t

-- Returns the steps for all sets of t traitors among h lieutenants under a commander who is a traitor, too: an attempt
-- on each pair of loyal lieutenants.
abbrev pub steps_under_traitor : ℕ → ℕ → ℕ → ℕ
steps_under_traitor m h t = sets h t * ((h - t) * (h - t)) * plan_steps 4 m true (h - t) t

-- Returns the steps for all sets of t traitors under one commander of n generals.
abbrev pub steps_under : ℕ → ℕ → ℕ → ℕ
steps_under n m zero = steps_under_loyal m (n - 1) 0
steps_under n m (suc t) = steps_under_loyal m (n - 1) (suc t) + steps_under_traitor m (n - 1) t

-- Returns how many commanders of n generals are asked about.
abbrev pub commanders : ℕ → Option ℕ → ℕ
commanders n None = n
commanders n (Some given) = 1

-- Returns the steps of the whole search for breaks by at most k traitors, or 0 if the numbers are not those of a message
-- table.
abbrev pub steps : ℕ → ℕ → Option ℕ → ℕ → ℕ
steps n m given k = if is_within n m (unwrap_or given 0)
    then commanders n given * sum_by (steps_under n m) (generals (min k n + 1)) else 0

-- Returns a number as it is stored: at most 2^64 - 1.
abbrev pub stored : ℕ → ℕ
stored x = min x (2 ^ 64 - 1)
