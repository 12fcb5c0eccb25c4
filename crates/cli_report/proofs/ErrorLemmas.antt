-- The error of a text, by the result of reading it.
use Rattle.std.proofs.Common.{◌≢◌, Option, None, Some, Result, Ok, Err}
use Rattle.std.specs.Prelude.{IfOk}
use Rattle.std.specs.declared.alloc.AllocError.{AllocError}
use Rattle.scenario.specs.declared.fault.ScenarioError.{ScenarioError}
use Rattle.scenario.specs.declared.fault.ScenarioError.TheVariants as errors
use Rattle.cli_report.specs.Refused.{IsErrorIn}

-- What is known of the result of reading holds of the error in it.
pub error_told : {T : Type 0} (Reads : Result T ScenarioError → Type 0) (Tells : Option ScenarioError → Type 0)
    → ((read : T) → Reads (Ok read) → Tells None) → ((e : ScenarioError) → e ≢ errors.Memory → Reads (Err e) → Tells (Some e))
    → (read : Result T ScenarioError) (told : Result (Option ScenarioError) AllocError) → Reads read → IsErrorIn read told → IfOk told Tells
error_told Reads Tells ok err (Ok x) told reads is = rw is (ok x reads)
error_told Reads Tells ok err (Err errors.Memory) (Ok o) reads is = absurd cc
error_told Reads Tells ok err (Err errors.Memory) (Err e) reads is = tt
error_told Reads Tells ok err (Err errors.Toml) told reads is = rw is (err errors.Toml (λ q. cc) reads)
error_told Reads Tells ok err (Err (errors.Unknown at key)) told reads is = rw is (err (errors.Unknown at key) (λ q. cc) reads)
error_told Reads Tells ok err (Err (errors.At fault place)) told reads is = rw is (err (errors.At fault place) (λ q. cc) reads)
error_told Reads Tells ok err (Err (errors.Program general fault)) told reads is = rw is (err (errors.Program general fault) (λ q. cc) reads)
