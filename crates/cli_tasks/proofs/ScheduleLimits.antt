-- Lemmas about files that are too long for a schedule.
use Rattle.std.proofs.Common.{ℕ, ◌≡◌, ◌<◌, ◌++◌, false, List, length, ap, arith, refl, subst}
use Rattle.std.specs.Prelude.{nat_le, Err}
use Rattle.std.specs.Str.{IsUtf8}
use Rattle.std.proofs.lemmas.Bool.{lt-leb}
use Rattle.std.proofs.lemmas.List.{length-append}
use Rattle.trace.specs.Schedules.{schedule_told}
use Rattle.trace.specs.declared.fault.TraceFault.TheVariants.{Line}
use Rattle.trace.specs.declared.fault.TraceError.TheVariants.{At}
use Rattle.streams.specs.Reading.{BeginsSo}

-- A file with more than 1,048,576 bytes is rejected at line 1.
pub too_many : (all front : List ℕ) → 1048576 < length front → BeginsSo 1048576 all front → schedule_told all ≡ Err (At Line 1)
unfolding schedule_told
too_many all front long begins =
    let lengths : length all ≡ length (front ++ begins.rest) = ap length begins.split in
    let more : nat_le (length all) 1048576 ≡ false = lt-leb (length all) 1048576 (omega (arith, lengths, length-append front begins.rest)) in
    rw more refl

-- If no UTF-8 text begins with the front of a file, the whole file is not UTF-8.
pub none_begun : (all front : List ℕ) → BeginsSo 1048576 all front → ((rest : List ℕ) → IsUtf8 (front ++ rest) → ⊥) → IsUtf8 all → ⊥
none_begun all front begins none text = none begins.rest (subst IsUtf8 begins.split text)
