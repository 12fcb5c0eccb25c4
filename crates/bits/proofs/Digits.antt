-- One bit of each number: m and n are unknown bits, v and w bits known to be 1, and x and y the bits of the words.
use Rattle.std.proofs.Common.{◌≡◌, ℕ, ◌+◌, ◌-◌, ◌%◌, ◌<◌, min, max, arith}

-- States what a bit may be if it is not set in the mask.
abbrev Agrees : ℕ → ℕ → ℕ → Type 0
Agrees m v x = m ≡ 0 → x ≡ v

pub and_digit : (m v x n w y q s t p c : ℕ) → m < 2 → v < 2 → x < 2 → n < 2 → w < 2 → y < 2 → min m v ≡ 0 → min n w ≡ 0 → (m ≡ 0 → x ≡ v) → (n ≡ 0 → y ≡ w) →
    c ≡ min p (1 - q) → p ≡ min s t → s ≡ max v m → t ≡ max w n → q ≡ min v w → c ≡ 0 → min x y ≡ q
and_digit m v x n w y q s t p c lm lv lx ln lw ly am an h k ce pe se te qe z = grind arith

pub or_digit : (m v x n w y q p c : ℕ) → m < 2 → v < 2 → x < 2 → n < 2 → w < 2 → y < 2 → min m v ≡ 0 → min n w ≡ 0 → (m ≡ 0 → x ≡ v) → (n ≡ 0 → y ≡ w) →
    c ≡ min p (1 - q) → p ≡ max m n → q ≡ max v w → c ≡ 0 → max x y ≡ q
or_digit m v x n w y q p c lm lv lx ln lw ly am an h k ce pe qe z = grind arith

pub xor_digit : (m v x n w y q p c : ℕ) → m < 2 → v < 2 → x < 2 → n < 2 → w < 2 → y < 2 → (m ≡ 0 → x ≡ v) → (n ≡ 0 → y ≡ w) →
    c ≡ min p (1 - q) → p ≡ (v + w) % 2 → q ≡ max m n → q ≡ 0 → (x + y) % 2 ≡ c
xor_digit m v x n w y q p c lm lv lx ln lw ly h k ce pe qe z = grind arith

-- Proves the claim for a join, where p is whether the known bits differ.
pub join_digit : (m v x n w p q c : ℕ) → m < 2 → v < 2 → x < 2 → n < 2 → w < 2 → (m ≡ 0 → x ≡ v) →
    q ≡ max (max m n) p → p ≡ (v + w) % 2 → c ≡ min v (1 - q) → q ≡ 0 → x ≡ c
join_digit m v x n w p q c lm lv lx ln lw h qe pe ce z = grind arith

pub join_digit_right : (m v x n w p q c : ℕ) → m < 2 → v < 2 → x < 2 → n < 2 → w < 2 → (n ≡ 0 → x ≡ w) →
    q ≡ max (max m n) p → p ≡ (v + w) % 2 → c ≡ min v (1 - q) → q ≡ 0 → x ≡ c
join_digit_right m v x n w p q c lm lv lx ln lw h qe pe ce z = grind arith
