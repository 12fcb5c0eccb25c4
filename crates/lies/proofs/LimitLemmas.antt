-- The numbers of a plan fit.
use Rattle.std.proofs.Common.{ℕ, zero, suc, ◌+◌, ◌*◌, ◌≤◌, arith}
use Rattle.std.proofs.lemmas.Nat.{mul-le}
use Rattle.lies.specs.Limits.{most_attacks}

-- Proves the bound on the orders for one choice, among at most 13 generals and 5 rounds.
pub most_small : (k : ℕ) → k ≤ 4 → most_attacks k ≤ 30941
most_small zero l = omega arith
most_small (suc zero) l = omega arith
most_small (suc (suc zero)) l = omega arith
most_small (suc (suc (suc zero))) l = omega arith
most_small (suc (suc (suc (suc zero)))) l = omega arith
most_small (suc (suc (suc (suc (suc k))))) l = absurd (omega arith)

-- Proves the bound on a sum with one choice more.
pub sum_few : (i m sum one : ℕ) → sum ≤ i * m → one ≤ m → sum + one ≤ (i + 1) * m
sum_few i m sum one l h = omega arith

-- Proves that the sum of at most 13 choices fits.
pub sum_fits : (i k sum : ℕ) → k ≤ 4 → i ≤ 13 → sum ≤ i * most_attacks k → sum ≤ 13 * most_attacks k
sum_fits i k sum lk li l = (let h = mul-le i (most_attacks k) 13 (most_attacks k) li (omega arith) in omega arith)
