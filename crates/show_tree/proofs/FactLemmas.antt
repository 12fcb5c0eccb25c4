-- What a picture says about a label.
use Rattle.std.proofs.Common.{ℕ, zero, suc, ◌+◌, ◌-◌, ◌*◌, ◌^◌, ◌<◌, ◌≤◌, ◌≡◌, true, List, ◌∷◌, Some, refl, sym, ap, ◌∙◌, arith, lit≤}
use Rattle.std.specs.List.{list_all}
use Rattle.std.proofs.Math.Nat.{mul-le-mul, pow-suc}
use Rattle.combine.specs.Rule.{combined_by}
use Rattle.label.specs.Labels.{others}
use Rattle.label.specs.Oral.{om}
use Rattle.book.specs.Explained.{held, list_of}
use Rattle.book.specs.Table.{MessageTable}
use Rattle.show_tree.specs.Facts.{below, is_alike, is_alike_by}

-- ---- how many labels extend a label

-- Proves that 13 ^ k is at most 28561 for k up to 4.
pub few_powers : (k : ℕ) → k ≤ 4 → 13 ^ k ≤ 28561
few_powers zero h = lit≤ tt
few_powers (suc zero) h = lit≤ tt
few_powers (suc (suc zero)) h = lit≤ tt
few_powers (suc (suc (suc zero))) h = lit≤ tt
few_powers (suc (suc (suc (suc zero)))) h = lit≤ tt
few_powers (suc (suc (suc (suc (suc k))))) h = absurd (omega arith)

pub none_below : (n size r : ℕ) → r ≡ 0 → 0 ≡ below n size r
unfolding below
none_below n size zero e = refl
none_below n size (suc k) e = absurd (omega arith)

pub more_below : (n size r k : ℕ) → r ≡ suc k → below n size r ≡ (n - 1 - size) * (1 + below n (size + 1) k)
unfolding below
more_below n size r k e = ap (below n size) e

-- Proves that the bound holds for one level more.
pub product_small : (x y r k : ℕ) → r ≡ suc k → x ≤ 12 → y < 13 ^ k → x * (1 + y) < 13 ^ r
product_small x y r k e few small =
    let h : x * (1 + y) ≤ 12 * 13 ^ k = mul-le-mul few (omega arith) in
    let p : 13 ^ r ≡ 13 ^ k * 13 = ap (λ (i : ℕ). 13 ^ i) e ∙ pow-suc 13 k in
    omega arith

-- ---- lists of orders

-- Proves that the value of a label with extensions is the order that results from its list.
pub held_more : (t : MessageTable) (r k : ℕ) (w : List ℕ) (p : ℕ) (orders : List ℕ) → r ≡ suc k → orders ≡ list_of t k w p → Some (combined_by t.rule orders) ≡ held t r w p
unfolding held om
held_more t r k w p orders e is = ap (λ xs. Some (combined_by t.rule xs)) is ∙ sym (ap (λ (i : ℕ). held t i w p) e)

-- ---- labels that can be folded

pub alike_last : (t : MessageTable) (traitors : List ℕ) (r : ℕ) (w : List ℕ) (p : ℕ) → r ≡ 0 → true ≡ is_alike t traitors r w p
unfolding is_alike
alike_last t traitors zero w p e = refl
alike_last t traitors (suc k) w p e = absurd (omega arith)

pub alike_more : (t : MessageTable) (traitors : List ℕ) (r k : ℕ) (w : List ℕ) (p : ℕ) → r ≡ suc k
    → is_alike t traitors r w p ≡ list_all (λ j. is_alike_by t traitors k w j p) (others t.generals (p ∷ w))
unfolding is_alike
alike_more t traitors r k w p e = ap (λ (i : ℕ). is_alike t traitors i w p) e
