use Rattle.std.proofs.Common.{◌≡◌, ◌≤◌, ◌^◌, drop}
use Rattle.text.specs.Base.{radix_of}
use Rattle.text.specs.Number.{digits_on}
use Rattle.text.proofs.number.digits.Given as goal

abbrev pub invariant-loop-byte : goal.invariant-loop-byte
invariant-loop-byte l = record { bound : l.number ≤ 2 ^ 64; goes_on : digits_on (radix_of l.base) l.number (drop l.byte-index l.bytes) ≡ digits_on (radix_of l.base) 0 l.bytes }
