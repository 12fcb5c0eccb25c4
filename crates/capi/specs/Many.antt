-- Defines many runs of one program, each with a board on which all words are 0.
use Rattle.std.specs.Prelude.{ℕ, ◌*◌, ◌≡◌, ◌⊎◌, List, Some, IfSome, take, drop, replicate, slice_get}
use Rattle.semantics.specs.Limits.{board_words}
use Rattle.capi.specs.declared.outcome.RunOutcome.{RunOutcome}
use Rattle.capi.specs.Runs.{IsRun}

-- States that a run of the program in this context has this outcome. `bytes` are the bytecode of the program.
pub record IsOutcome (bytes context : List ℕ) (outcome : RunOutcome) : Type 0 where
  pub left : List ℕ
  pub run : IsRun bytes context (replicate board_words 0) outcome.r0 outcome.steps left

-- Returns the context with the given index among contexts of 4,096 bytes that follow one another.
abbrev pub context_at : List ℕ → ℕ → List ℕ
context_at contexts index = take 4096 (drop (4096 * index) contexts)

-- States that each outcome is that of a run in the context with the same index. `bytes` are the bytecode of the
-- program.
abbrev pub AreRuns : List ℕ → List ℕ → List RunOutcome → Type 0
AreRuns bytes contexts outcomes =
    (index : ℕ) → IfSome (slice_get outcomes index) (λ o. IsOutcome bytes (context_at contexts index) o)

-- States that each outcome in `after` is that of a run in the context with the same index, or is unchanged from
-- `before`. `bytes` are the bytecode of the program.
abbrev pub AreBegun : List ℕ → List ℕ → List RunOutcome → List RunOutcome → Type 0
AreBegun bytes contexts before after =
    (index : ℕ) →
    IfSome (slice_get after index) (λ o. IsOutcome bytes (context_at contexts index) o
    ⊎ (slice_get before index ≡ Some o))
