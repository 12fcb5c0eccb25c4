-- Where windows are, in signed numbers that are stored in words and read again.
use Rattle.std.proofs.Common.{◌≡◌, ◌∙◌, ℕ, ◌+◌, ◌≤◌, ℤ, pos, negsuc, ◌+ℤ◌, ◌≤ℤ◌, Bool, true, false, w16, w32, w64, to_z, of_z, arith, ap, ap₂, refl, subst, sym}
use Rattle.std.specs.Prelude.{Result, Ok, Err, IsOk, nat_le, if◌then◌else◌}
use Rattle.std.proofs.lemmas.Bool.{leb-true}
use Rattle.std.proofs.lemmas.Int.{ints, to_z-of_z}
use mir.Val.{SFits}
use Rattle.semantics.specs.declared.value.Region.{Region}
use Rattle.semantics.specs.declared.value.Region.TheVariants.{Stack, Context}
use Rattle.semantics.specs.State.{OutOfBounds}
use Rattle.semantics.specs.Memory.{inside, window}
use Rattle.mem.specs.Answers.{IsAnswer}
use Rattle.mem.specs.declared.fault.MemoryFault.{MemoryFault}

abbrev pub again : ℤ → ℤ
again z = to_z w64 (of_z w64 z)

-- The sum of a pointer's offset and a distance, as it is stored in a word and read again.
abbrev pub sum_again : ℤ → ℤ → ℤ
sum_again y e = again (again y +ℤ again e)

abbrev pub past_again : ℤ → ℤ → ℤ
past_again y e = again (sum_again y e +ℤ pos 512)

large : (z : ℤ) → SFits w32 z → SFits w64 z
large z fits = omega (arith, ints)

wide : (d : ℤ) → SFits w16 d → SFits w64 d
wide d fits = omega (arith, ints)

-- ---- a sum of numbers that fit

module _ (z d : ℤ) (y e : ℤ) (first : again y ≡ z) (second : again e ≡ d) (fits : SFits w64 (z +ℤ d)) where
  parts : again y +ℤ again e ≡ z +ℤ d
  parts = ap₂ (λ (a b : ℤ). a +ℤ b) first second

  pub sum_fits : SFits w64 (again y +ℤ again e)
  sum_fits = subst (λ (x : ℤ). SFits w64 x) (sym parts) fits

  pub sum_is : sum_again y e ≡ z +ℤ d
  sum_is = ap again parts ∙ to_z-of_z w64 (z +ℤ d) fits

  module _ (more : SFits w64 ((z +ℤ d) +ℤ pos 512)) where
    pub past_fits : SFits w64 (sum_again y e +ℤ pos 512)
    past_fits = subst (λ (x : ℤ). SFits w64 (x +ℤ pos 512)) (sym sum_is) more

    pub past_is : past_again y e ≡ (z +ℤ d) +ℤ pos 512
    past_is = ap (λ (x : ℤ). again (x +ℤ pos 512)) sum_is ∙ to_z-of_z w64 ((z +ℤ d) +ℤ pos 512) more

-- ---- an offset of 32 bits

pub record Small (z d y e : ℤ) : Type 0 where
  pub offset : again y ≡ z
  pub distance : again e ≡ d
  pub fits : SFits w64 (z +ℤ d)
  pub more : SFits w64 ((z +ℤ d) +ℤ pos 512)

pub distance_is : (d e : ℤ) → SFits w16 d → e ≡ to_z w16 (of_z w16 d) → again e ≡ d
distance_is d e fits from = ap again (from ∙ to_z-of_z w16 d fits) ∙ to_z-of_z w64 d (wide d fits)

pub small : (z d y e : ℤ) → SFits w32 z → SFits w16 d → y ≡ to_z w32 (of_z w32 z) → e ≡ to_z w16 (of_z w16 d) → Small z d y e
small z d y e first second from behind = record {
  offset = ap again (from ∙ to_z-of_z w32 z first) ∙ to_z-of_z w64 z (large z first);
  distance = distance_is d e second behind;
  fits = omega (arith, ints);
  more = omega (arith, ints);
}

-- ---- an offset that is known to be in its region

inside_within : (room size : ℕ) (z : ℤ) → IsOk (inside room size z) → (pos 0 ≤ℤ z) × (z ≤ℤ pos room)
inside_within room size (negsuc n) ok = absurd cc
inside_within room size (pos place) ok = by_test (nat_le (place + size) room) refl ok
  where
    by_test : (t : Bool) → nat_le (place + size) room ≡ t → IsOk (if t then Ok place else Err OutOfBounds) → (pos 0 ≤ℤ pos place) × (pos place ≤ℤ pos room)
    by_test true e k = let within : place + size ≤ room = leb-true (place + size) room e in (omega (arith, ints), omega (arith, ints))
    by_test false e k = absurd cc

pub window_fits : (region : Region) (z : ℤ) (n : ℕ) → IsOk (window region z n) → SFits w64 z
window_fits Stack z n ok = let within = inside_within 512 n (z +ℤ pos 512) ok in let low = within.0 in let high = within.1 in omega (arith, ints)
window_fits Context z n ok = let within = inside_within 4096 n z ok in let low = within.0 in let high = within.1 in omega (arith, ints)

pub stack_fits : (region : Region) (z : ℤ) (n : ℕ) → region ≡ Stack → IsOk (window region z n) → SFits w64 (z +ℤ pos 512)
stack_fits region z n is ok =
    let within = inside_within 512 n (z +ℤ pos 512) (subst (λ (r : Region). IsOk (window r z n)) is ok) in
    let low = within.0 in let high = within.1 in omega (arith, ints)

-- ---- the result

pub stack_answer : (region : Region) (z p : ℤ) (n : ℕ) (r : Result ℕ MemoryFault) → region ≡ Stack → p ≡ z +ℤ pos 512 → IsAnswer (inside 512 n p) r → IsAnswer (window region z n) r
stack_answer region z p n r is same answer =
    subst (λ (x : Region). IsAnswer (window x z n) r) (sym is) (subst (λ (q : ℤ). IsAnswer (inside 512 n q) r) same answer)

pub context_answer : (region : Region) (z p : ℤ) (n : ℕ) (r : Result ℕ MemoryFault) → region ≡ Context → p ≡ z → IsAnswer (inside 4096 n p) r → IsAnswer (window region z n) r
context_answer region z p n r is same answer =
    subst (λ (x : Region). IsAnswer (window x z n) r) (sym is) (subst (λ (q : ℤ). IsAnswer (inside 4096 n q) r) same answer)

pub stack_place : (region : Region) (z p : ℤ) (n place : ℕ) → region ≡ Stack → p ≡ z +ℤ pos 512 → inside 512 n p ≡ Ok place → window region z n ≡ Ok place
stack_place region z p n place is same at = ap (λ (x : Region). window x z n) is ∙ (ap (λ (q : ℤ). inside 512 n q) (sym same) ∙ at)

pub context_place : (region : Region) (z p : ℤ) (n place : ℕ) → region ≡ Context → p ≡ z → inside 4096 n p ≡ Ok place → window region z n ≡ Ok place
context_place region z p n place is same at = ap (λ (x : Region). window x z n) is ∙ (ap (λ (q : ℤ). inside 4096 n q) (sym same) ∙ at)

pub stack_known : (region : Region) (z p : ℤ) (n : ℕ) → region ≡ Stack → p ≡ z +ℤ pos 512 → IsOk (window region z n) → IsOk (inside 512 n p)
stack_known region z p n is same ok = subst (λ (q : ℤ). IsOk (inside 512 n q)) (sym same) (subst (λ (x : Region). IsOk (window x z n)) is ok)

pub context_known : (region : Region) (z p : ℤ) (n : ℕ) → region ≡ Context → p ≡ z → IsOk (window region z n) → IsOk (inside 4096 n p)
context_known region z p n is same ok = subst (λ (q : ℤ). IsOk (inside 4096 n q)) (sym same) (subst (λ (x : Region). IsOk (window x z n)) is ok)
