-- The distance to a name.
use Rattle.std.proofs.Common.{◌≡◌, ℕ, ℤ, pos, zero, suc, ◌+◌, ◌-◌, ◌<◌, ◌≤◌, Bool, true, false, cond, List, refl, ap, ◌∙◌, arith}
use Rattle.std.specs.Prelude.{Option, Some, None, ◌+ℤ◌, nat_lt, nat_le, neg_ℤ, if◌then◌else◌}
use Rattle.std.proofs.lemmas.Bool.Decides.{nat_tests}
use Rattle.std.proofs.lemmas.Int.{ints}
use Rattle.std.proofs.lemmas.Option.{same_Some}
use Rattle.text.specs.Options.{◌>>=◌}
use Rattle.asm.specs.declared.number.Number.{Number}
use Rattle.asm.specs.Number.{signed_within}
use Rattle.asm.specs.Operand.{Named}
use Rattle.asm.specs.Distance.{defined, between, distance_of}

ahead : (a b limit : ℕ) (z : ℤ) (t : Bool) → a ≤ b → cond t (Some (pos (b - a))) None ≡ Some z → pos a +ℤ z ≡ pos b
ahead a b limit z true le e = let is : pos (b - a) ≡ z = cc in let sum : a + (b - a) ≡ b = omega arith in rw (← is) (ap pos sum)
ahead a b limit z false le e = absurd cc

back_by : (a b k : ℕ) → a ≡ b + k → pos a +ℤ neg_ℤ (pos k) ≡ pos b
back_by a b zero e = ap pos (omega arith)
back_by a b (suc k) e = omega (arith, ints)

behind : (a b limit : ℕ) (z : ℤ) (t : Bool) → b < a → cond t (Some (neg_ℤ (pos (a - b)))) None ≡ Some z → pos a +ℤ z ≡ pos b
behind a b limit z true lt e = let is : neg_ℤ (pos (a - b)) ≡ z = cc in let sum : a ≡ b + (a - b) = omega arith in rw (← is) (back_by a b (a - b) sum)
behind a b limit z false lt e = absurd cc

lands_at : (limit a b : ℕ) (z : ℤ) → signed_within limit (between a b) ≡ Some z → pos a +ℤ z ≡ pos b
unfolding signed_within
lands_at limit a b z e = by (nat_le a b) refl e
  where
    by : (t : Bool) → t ≡ nat_le a b → signed_within limit (if t then record { negative = false; magnitude = b - a } else record { negative = true; magnitude = a - b }) ≡ Some z → pos a +ℤ z ≡ pos b
    by true le h = ahead a b limit z (nat_lt (b - a) limit) (grind (arith, nat_tests)) h
    by false gt h = behind a b limit z (nat_le (a - b) limit) (grind (arith, nat_tests)) h

-- The distance to a name is in its range.
pub record Reaches (names : List (List ℕ × ℕ)) (unit : ℕ) (name : List ℕ) (distance : ℤ) : Type 0 where
  pub target : ℕ
  pub there : defined names name ≡ Some target
  pub lands : pos (unit + 1) +ℤ distance ≡ pos target

-- The value that was found before.
given_name : (o : Option ℕ) (start : ℕ) (d : Number) → (o >>= λ target. Some (between start target)) ≡ Some d → (target : ℕ) × (o ≡ Some target) × (between start target ≡ d)
given_name None start d h = absurd cc
given_name (Some target) start d h = (target, refl, same_Some (between start target) d h)

pub reaches : (limit : ℕ) (names : List (List ℕ × ℕ)) (unit : ℕ) (name : List ℕ) (d : Number) (z : ℤ) → distance_of names unit (Named name) ≡ Some d → signed_within limit d ≡ Some z → Reaches names unit name z
unfolding distance_of
reaches limit names unit name d z e f =
    let there = given_name (defined names name) (unit + 1) d e in
    record { target = there.0; there = there.1; lands = lands_at limit (unit + 1) there.0 z (ap (signed_within limit) there.2 ∙ f) }
