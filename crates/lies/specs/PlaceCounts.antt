-- How many orders traitors send to loyal generals, from the numbers of generals alone.
use Rattle.std.specs.Prelude.{ℕ, zero, suc, ◌+◌, ◌-◌, ◌*◌, max, nat_lt, Bool, if◌then◌else◌, true, false}

-- Returns how many orders the last general of a label sends to loyal generals, if he is a traitor. l loyal generals are
-- off the label.
abbrev pub own_places : Bool → ℕ → ℕ
own_places is_traitor l = if is_traitor then l else 0

-- Returns how many orders traitors send to loyal generals about a label and those that begin with it and have up to k
-- generals more. `is_traitor` is whether the last general of the label is one. l loyal generals and t traitors are off
-- the label.
unfoldable pub places : ℕ → Bool → ℕ → ℕ → ℕ
places zero is_traitor l t = own_places is_traitor l
places (suc k) is_traitor l t =
    own_places is_traitor l + (l * places k false (l - 1) t + t * places k true l (t - 1))

-- Returns an upper bound on these orders among at most 13 generals.
abbrev pub places_bound : ℕ → ℕ
places_bound zero = 13
places_bound (suc k) = 13 + 26 * places_bound k

-- Returns the most orders that exactly `count` of n generals send to loyal generals by OM(m), if they are the traitors.
-- The commander is loyal or one of them.
abbrev pub most_by : ℕ → ℕ → ℕ → ℕ
most_by n m count = max (if nat_lt count n then places m false (n - count - 1) count else 0)
    (if nat_lt 0 count then places m true (n - count) (count - 1) else 0)
