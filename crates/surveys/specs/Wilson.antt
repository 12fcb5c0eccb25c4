-- Wilson's interval for a share, at 95 per cent (Wilson 1927), in ten-thousandths. If k of n campaigns fail, it has the
-- shares p with (k/n - p)^2 <= z^2 p (1 - p) / n, where z is 1.96. So 625 (10000 k - n q)^2 <= 2401 n q (10000 - q) for
-- a share of q ten-thousandths.
use Rattle.std.specs.Prelude.{ℕ, zero, suc, ◌≡◌, ◌≤◌, ◌-◌, ◌+◌, ◌*◌, ◌^◌, nat_le, nat_lt, ◌==◌, ◌&&◌, ◌||◌, Bool, true, cond, Option, None, Some}

-- Returns the greatest number below the limit `n` for which `p` is true, or 0 if there is none.
unfoldable pub greatest : (ℕ → Bool) → ℕ → ℕ
greatest p zero = 0
greatest p (suc n) = cond (p n) n (greatest p n)

-- Checks whether a share of `q` ten-thousandths is at most the lower end of the interval, if k of n campaigns fail. It
-- is 0, or it is less than k/n and either outside the interval or its end.
abbrev pub is_below : ℕ → ℕ → ℕ → Bool
is_below n k q =
    let d = 25 * (k * 10000 - n * q) in
    (q == 0) || (nat_lt (n * q) (k * 10000) && nat_le (2401 * n * (q * (10000 - q))) (d * d))

-- Returns the lower end of the interval, in ten-thousandths, rounded down, if k of n campaigns fail.
unfoldable pub lower : ℕ → ℕ → ℕ
lower n k = greatest (is_below n k) 10001

-- Returns the upper end of the interval, in ten-thousandths, rounded up, if k of n campaigns fail. It is 1 less the
-- lower end for the n - k campaigns that do not fail.
abbrev pub upper : ℕ → ℕ → ℕ
upper n k = 10000 - lower n (n - k)

-- Returns both ends of the interval, or `None` if there are 2^46 campaigns or more, or fewer campaigns than failed
-- ones.
abbrev pub interval : ℕ → ℕ → Option (ℕ × ℕ)
interval n k = cond (nat_le k n && nat_lt n (2 ^ 46)) (Some (lower n k, upper n k)) None

-- States that q is the greatest share, in ten-thousandths, that is at most the lower end of the interval, if k of n
-- campaigns fail.
pub record IsLower (n k q : ℕ) : Type 0 where
  pub below : is_below n k q ≡ true
  pub most : q ≤ 10000
  pub limit : (p : ℕ) → p ≤ 10000 → is_below n k p ≡ true → p ≤ q
