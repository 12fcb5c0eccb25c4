-- Lists of accesses, such as `1 2 1/2`: the generals who access the board in each round, in this order (own).
use Rattle.std.specs.Prelude.{ℕ, suc, nat_lt, if◌then◌else◌, List, [], ◌∷◌, ◌++◌, length, Option, Some, None, Result, Ok, Err}
use Rattle.text.specs.declared.stop.Stop.{Stop}
use Rattle.text.specs.declared.stop.Stop.TheVariants.{Byte}
use Rattle.text.specs.Options.{◌>>=◌}
use Rattle.text.specs.Stop.{space}
use Rattle.text.specs.Parts.{pieces}
use Rattle.text.specs.Number.{decimal_of}
use Rattle.campaign_schedules.specs.declared.fault.AccessFault.{AccessFault}
use Rattle.campaign_schedules.specs.declared.fault.AccessFault.TheVariants.{Text}

-- The byte that separates the rounds in a list of accesses: a slash.
abbrev pub slash : Stop
slash = Byte 47

-- Returns the general whose decimal number `part` is, from 0 to 12, or None if it is not such a number.
unfoldable pub general_of : List ℕ → Option ℕ
general_of part = decimal_of part >>= λ n. if nat_lt n 13 then Some n else None

-- Continues with the general whose number a word of the list is. If it is not such a number, returns the fault at the
-- next place of the round.
abbrev pub with_general : ℕ → List ℕ → Option ℕ → (ℕ → Result (List ℕ) AccessFault) → Result (List ℕ) AccessFault
with_general round before None rest = Err (Text round (suc (length before)))
with_general round before (Some general) rest = rest general

-- Returns the generals in `before`, followed by those whom the words of this round name. Empty words are skipped. If
-- a word is not the number of a general, returns the fault of the first such word.
abbrev pub row_told : ℕ → List ℕ → List (List ℕ) → Result (List ℕ) AccessFault
row_told round before [] = Ok before
row_told round before ([] ∷ parts) = row_told round before parts
row_told round before ((c ∷ cs) ∷ parts) =
    with_general round before (general_of (c ∷ cs)) (λ general. row_told round (before ++ general ∷ []) parts)

-- Continues with the generals of a round. If they have a fault, returns it, and for a sixth round returns its fault.
abbrev pub with_row : ℕ → Result (List ℕ) AccessFault → (List ℕ → Result (List (List ℕ)) AccessFault) →
    Result (List (List ℕ)) AccessFault
with_row round (Err fault) rest = Err fault
with_row round (Ok row) rest = if nat_lt 5 round then Err (Text round 1) else rest row

-- Returns the rounds in `before`, followed by the rounds of the given texts, which are counted from `round` on, or
-- the first fault.
abbrev pub rows_told : List (List ℕ) → ℕ → List (List ℕ) → Result (List (List ℕ)) AccessFault
rows_told before round [] = Ok before
rows_told before round (part ∷ parts) =
    with_row round (row_told round [] (pieces space part)) (λ row. rows_told (before ++ row ∷ []) (suc round) parts)

-- Returns the fault at this place if a word is not the number of a general, and otherwise the fault in `rest`.
abbrev pub fault_at : ℕ → ℕ → Option ℕ → Option AccessFault → Option AccessFault
fault_at round place None rest = Some (Text round place)
fault_at round place (Some general) rest = rest

-- Returns the fault of the first word in a round that is not the number of a general, or None if all are. Places are
-- counted from `place` on, and empty words are not counted.
abbrev pub row_fault : ℕ → ℕ → List (List ℕ) → Option AccessFault
row_fault round place [] = None
row_fault round place ([] ∷ parts) = row_fault round place parts
row_fault round place ((c ∷ cs) ∷ parts) =
    fault_at round place (general_of (c ∷ cs)) (row_fault round (suc place) parts)

-- Returns the generals whom a text lists for each round, or the first fault of the text. Slashes separate the rounds,
-- and spaces the generals of a round.
unfoldable pub accesses_told : List ℕ → Result (List (List ℕ)) AccessFault
accesses_told text = rows_told [] 1 (pieces slash text)
