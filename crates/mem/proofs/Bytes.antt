-- A context is 4,096 bytes.
use Rattle.std.proofs.Common.{◌≡◌, ℕ, zero, suc, ◌<◌, List, [], ◌∷◌, ◌++◌, length, take, flat_map, arith, All, length-append}
use Rattle.std.specs.Prelude.{replicate}
use Rattle.std.specs.Int.{byte_at, bytes_low_first}
use Rattle.std.proofs.lemmas.List.{length-replicate, length-take-le}
use Rattle.std.proofs.lemmas.List.Elements.{All-append, All-take, All-replicate}
use Rattle.word.specs.Bytes.{little_bytes}
use Rattle.semantics.specs.Relay.{IsContext}
use Rattle.mem.specs.ContextLayout.{context_bytes}
use Rattle.semantics.proofs.WordLaws.{byte_fits}

padded_long : (n : ℕ) (xs : List ℕ) → length (take n (xs ++ replicate n 0)) ≡ n
padded_long n xs = length-take-le n (xs ++ replicate n 0) (rw (length-append xs (replicate n 0), length-replicate {A = ℕ} n 0) (omega arith))

none_small : All (λ b. b < 256) []
none_small k d lt = absurd (omega arith)

one_small : (x : ℕ) (xs : List ℕ) → x < 256 → All (λ b. b < 256) xs → All (λ b. b < 256) (x ∷ xs)
one_small x xs h all zero d lt = h
one_small x xs h all (suc k) d lt = all k d (omega arith)

low_small : (k i n : ℕ) → All (λ b. b < 256) (bytes_low_first i k n)
low_small zero i n = none_small
low_small (suc k) i n = one_small (byte_at i n) (bytes_low_first (suc i) k n) (byte_fits i n) (low_small k (suc i) n)

bytes_small : (numbers : List ℕ) → All (λ b. b < 256) (flat_map (little_bytes 4) numbers)
bytes_small [] = none_small
bytes_small (n ∷ numbers) = All-append (λ b. b < 256) (little_bytes 4 n) (flat_map (little_bytes 4) numbers) (low_small 4 0 n) (bytes_small numbers)

padded_small : (n : ℕ) (xs : List ℕ) → All (λ b. b < 256) xs → All (λ b. b < 256) (take n (xs ++ replicate n 0))
padded_small n xs h = All-take (λ b. b < 256) n (xs ++ replicate n 0) (All-append (λ b. b < 256) xs (replicate n 0) h (All-replicate (λ b. b < 256) n 0 (omega arith)))

pub bytes_context : (numbers : List ℕ) → IsContext (context_bytes numbers)
unfolding context_bytes
bytes_context numbers = record {
  long = padded_long 4096 (flat_map (little_bytes 4) numbers);
  bytes = padded_small 4096 (flat_map (little_bytes 4) numbers) (bytes_small numbers);
}
