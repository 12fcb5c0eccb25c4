-- The pseudo-random numbers that a seed gives (Steele, Lea and Flood 2014, SplitMix64).
use Rattle.std.specs.Prelude.{ℕ, ◌+◌, ◌*◌, ◌-◌, ◌/◌, ◌%◌, ◌^◌, bit_xor}
use Rattle.surveys.specs.declared.span.CountRange.{CountRange}

-- Combines a word of 64 bits with itself, shifted right by `places` bits, by exclusive or, and multiplies the result by
-- `factor`, modulo 2^64.
abbrev pub folded : ℕ → ℕ → ℕ → ℕ
folded z places factor = bit_xor z (z / 2 ^ places) * factor % 2 ^ 64

-- Mixes the bits of a word of 64 bits: returns the random number that SplitMix64 computes from this state.
unfoldable pub mixed : ℕ → ℕ
mixed z =
    let y = folded (folded z 30 0xbf58476d1ce4e5b9) 27 0x94d049bb133111eb in
    bit_xor y (y / 2 ^ 31)

-- Returns the random number of 64 bits at index `place` of the sequence that `seed` determines. Indices are counted
-- from 0.
unfoldable pub draw : ℕ → ℕ → ℕ
draw seed place = mixed ((seed + (place + 1) * 0x9e3779b97f4a7c15) % 2 ^ 64)

-- Returns the number of `span` that the random number `drawn` selects: the least number of the span, plus `drawn`
-- modulo the count of its numbers.
abbrev pub within : CountRange → ℕ → ℕ
within span drawn = span.low + drawn % (span.high + 1 - span.low)
