-- The units of names, and the distances of jumps to them.
use Rattle.std.specs.Prelude.{ℕ, ◌+◌, ◌-◌, List, [], ◌∷◌, true, false, nat_le, if◌then◌else◌, Option, Some, None}
use Rattle.std.specs.Str.{bytes_eq}
use Rattle.text.specs.Options.{◌>>=◌}
use Rattle.asm.specs.declared.number.Number.{Number}
use Rattle.asm.specs.Operand.{Goal, Away, Named}

-- Returns the unit for which a name is defined.
abbrev pub defined : List (List ℕ × ℕ) → List ℕ → Option ℕ
defined [] name = None
defined (d ∷ ds) name = if bytes_eq d.0 name then Some d.1 else defined ds name

-- Returns the distance from the unit `start` to the unit `target`.
abbrev pub between : ℕ → ℕ → Number
between start target = if nat_le start target then record { negative = false; magnitude = target - start }
    else record { negative = true; magnitude = start - target }

-- Returns the distance of a jump at `unit`, counted from the next unit, or nothing if it jumps to a name that is not
-- defined.
unfoldable pub distance_of : List (List ℕ × ℕ) → ℕ → Goal → Option Number
distance_of names unit (Away n) = Some n
distance_of names unit (Named name) = defined names name >>= λ target. Some (between (unit + 1) target)
