-- A context contains its numbers.
use Rattle.std.proofs.Common.{◌≡◌, ℕ, zero, suc, ◌+◌, ◌-◌, ◌*◌, ◌<◌, ◌≤◌, ◌^◌, List, [], ◌∷◌, ◌++◌, take, drop, flat_map, ap, ◌∙◌, Some, arith}
use Rattle.std.specs.Prelude.{replicate, slice_get, slice_range}
use Rattle.std.specs.Int.{w32, from_le_bytes}
use Rattle.std.proofs.lemmas.Nat.{from_le_bytes-to_le_bytes_4}
use Rattle.mem.specs.ContextLayout.{context_bytes}
use Rattle.word.specs.Bytes.{little_bytes, little_number}

four_bytes : (a b c d : ℕ) → little_number (a ∷ b ∷ c ∷ d ∷ []) ≡ from_le_bytes w32 (a ∷ b ∷ c ∷ d ∷ [])
four_bytes a b c d = omega arith

number_back : (v : ℕ) → v < 2 ^ 32 → little_number (little_bytes 4 v) ≡ v
number_back v lt = four_bytes _ _ _ _ ∙ from_le_bytes-to_le_bytes_4 v lt

pub bytes_at : (numbers z : List ℕ) (i a n v : ℕ) → a ≡ 4 * i → a + 4 ≤ n → slice_get numbers i ≡ Some v → take 4 (drop a (take n (flat_map (little_bytes 4) numbers ++ z))) ≡ little_bytes 4 v
bytes_at [] z i a n v e le is = cc
bytes_at (x ∷ xs) z zero zero (suc (suc (suc (suc n)))) v e le is = (let f : x ≡ v = cc in ap (little_bytes 4) f)
bytes_at (x ∷ xs) z (suc i) (suc (suc (suc (suc a)))) (suc (suc (suc (suc n)))) v e le is = bytes_at xs z i a n v (omega arith) (omega arith) is
bytes_at (x ∷ xs) z i a n v e le is = absurd (omega arith)

-- Each number of a context is in its four bytes.
pub number_at : (numbers : List ℕ) (i at v : ℕ) → at ≡ 4 * i → at + 4 ≤ 4096 → slice_get numbers i ≡ Some v → v < 2 ^ 32 → little_number (slice_range (context_bytes numbers) at (at + 4)) ≡ v
unfolding context_bytes
number_at numbers i at v e le is small =
    let four : at + 4 - at ≡ 4 = omega arith in
    ap (λ n. little_number (take n (drop at (take 4096 (flat_map (little_bytes 4) numbers ++ replicate 4096 0))))) four
    ∙ (ap little_number (bytes_at numbers (replicate 4096 0) i at 4096 v e le is) ∙ number_back v small)
