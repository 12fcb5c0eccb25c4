-- The number of generals in a group.
use Rattle.std.proofs.Common.{ℕ, zero, suc, ◌+◌, ◌*◌, ◌/◌, ◌<◌, ◌≤◌, ◌≡◌, cond, arith}
use Rattle.std.specs.Prelude.{◌==◌, nat_lt, if◌then◌else◌, count_by}
use Rattle.std.specs.List.{range_with_len}
use Rattle.std.proofs.lemmas.Bool.Decides.{nat_tests}
use Rattle.std.proofs.lemmas.List.Sums.{sum_by-cons}
use Rattle.label.specs.Labels.{generals}
use Rattle.bounds.specs.declared.story.Story.{Story}
use Rattle.bounds.specs.declared.story.Story.TheVariants.{First, Second, Third}
use Rattle.bounds.specs.Stories.{group_of, lying_group, is_traitor_in}
use Rattle.bounds.specs.Tightness.{IsTooFew}

-- Returns how many generals below x are in the group g.
size : ℕ → ℕ → ℕ → ℕ
size c zero x = if nat_lt c x then (x + 2) / 3 else x / 3
size c (suc zero) x = if nat_lt c x then (x + 1) / 3 else (x + 2) / 3
size c (suc (suc g)) x = if nat_lt c x then x / 3 else (x + 1) / 3

size-more : (c g a : ℕ) → g < 3 → size c g (a + 1) ≡ cond (group_of c a == g) 1 0 + size c g a
unfolding size group_of
size-more c zero a l = grind (arith, nat_tests)
size-more c (suc zero) a l = grind (arith, nat_tests)
size-more c (suc (suc zero)) a l = grind (arith, nat_tests)
size-more c (suc (suc (suc g))) a l = absurd (omega arith)

counted : (c g a k : ℕ) → g < 3 → count_by (λ j. group_of c j == g) (range_with_len a k) + size c g a ≡ size c g (a + k)
counted c g a zero l = let e : a + 0 ≡ a = omega arith in rw e (omega arith)
counted c g a (suc k) l =
    let e : a + suc k ≡ (a + 1) + k = omega arith in
    rw (e, sum_by-cons (λ j. cond (group_of c j == g) 1 0) a (range_with_len (a + 1) k)) (omega (arith, counted c g (a + 1) k l, size-more c g a l))

size_at : (c n g : ℕ) → c < n → g < 3 → (size c g 0 ≡ 0) × (3 * size c g n ≤ n + 2) × (n ≤ 3 * size c g n + g)
unfolding size
size_at c n zero l h = (grind (arith, nat_tests), grind (arith, nat_tests), grind (arith, nat_tests))
size_at c n (suc zero) l h = (grind (arith, nat_tests), grind (arith, nat_tests), grind (arith, nat_tests))
size_at c n (suc (suc zero)) l h = (grind (arith, nat_tests), grind (arith, nat_tests), grind (arith, nat_tests))
size_at c n (suc (suc (suc g))) l h = absurd (omega arith)

lying-below : (s : Story) → lying_group s < 3
lying-below First = omega arith
lying-below Second = omega arith
lying-below Third = omega arith

-- Proves that a story has at least one traitor and at most m.
pub liars : (s : Story) (n c m : ℕ) → IsTooFew n c m → (1 ≤ count_by (is_traitor_in s c) (generals n)) × (count_by (is_traitor_in s c) (generals n) ≤ m)
unfolding is_traitor_in
liars s n c m few =
    let l : lying_group s < 3 = lying-below s in
    let at = size_at c n (lying_group s) few.commander l in
    let all : count_by (λ j. group_of c j == lying_group s) (range_with_len 0 n) + size c (lying_group s) 0 ≡ size c (lying_group s) (0 + n) = counted c (lying_group s) 0 n l in
    let e : 0 + n ≡ n = omega arith in
    let all' : count_by (λ j. group_of c j == lying_group s) (range_with_len 0 n) + size c (lying_group s) 0 ≡ size c (lying_group s) n = rw e at all in
    let three = few.three in
    let bound = few.few in
    (omega (arith, at.0, at.1, at.2), omega (arith, at.0, at.1, at.2))
