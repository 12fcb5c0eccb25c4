-- Numbers with a sign, and their ranges.
use Rattle.std.specs.Prelude.{ℕ, ℤ, pos, neg_ℤ, ◌-◌, ◌^◌, List, true, false, ◌==◌, nat_lt, nat_le, if◌then◌else◌, Option, Some, None, drop, slice_index}
use Rattle.text.specs.Options.{◌>>=◌}
use Rattle.text.specs.Number.{magnitude_of}
use Rattle.asm.specs.declared.number.Number.{Number}

-- Returns the number that a text is, which may have a minus.
unfoldable pub number_of : List ℕ → Option Number
number_of text =
    if slice_index text 0 == 45
    then (magnitude_of (drop 1 text) >>= λ n. Some (record { negative = true; magnitude = n }))
    else (magnitude_of text >>= λ n. Some (record { negative = false; magnitude = n }))

-- Returns the number if it is from -limit to limit - 1.
unfoldable pub signed_within : ℕ → Number → Option ℤ
signed_within limit n =
    if n.negative then (if nat_le n.magnitude limit then Some (neg_ℤ (pos n.magnitude)) else None)
    else if nat_lt n.magnitude limit then Some (pos n.magnitude) else None

-- Returns the number as a 64-bit word if it is from -2^63 to 2^64 - 1.
unfoldable pub bits_within : Number → Option ℕ
bits_within n =
    if n.negative then (if nat_le n.magnitude (2 ^ 63) then Some (if n.magnitude == 0 then 0 else 2 ^ 64 - n.magnitude)
    else None)
    else if nat_lt n.magnitude (2 ^ 64) then Some n.magnitude else None
