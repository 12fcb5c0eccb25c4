-- Defines contexts that are filled up with zeros to 4,096 bytes.
use Rattle.std.specs.Prelude.{ℕ, ◌-◌, ◌≡◌, ◌≤◌, List, ◌++◌, length, drop, replicate}
use Rattle.semantics.specs.Limits.{context_size}

-- Returns the context of 4,096 bytes that begins with these bytes and continues with zeros.
abbrev pub padded : List ℕ → List ℕ
padded bytes = bytes ++ replicate (context_size - length bytes) 0

-- States that there are 4,096 bytes, and that they are 0 from index `filled` on.
pub record IsPadded (bytes : List ℕ) (filled : ℕ) : Type 0 where
  pub long : length bytes ≡ context_size
  pub within : filled ≤ context_size
  pub zeros : drop filled bytes ≡ replicate (context_size - filled) 0
