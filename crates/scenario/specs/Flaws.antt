-- The first fault of a scenario's keys, and how a result of the code reports it (own).
use Rattle.std.specs.Prelude.{◌≡◌, ℕ, List, Option, Result, Ok, Err, string_bytes}
use Rattle.scenario.specs.declared.place.ScenarioPlace.{ScenarioPlace}
use Rattle.scenario.specs.declared.fault.ScenarioFault.{ScenarioFault}
use Rattle.scenario.specs.declared.fault.ScenarioError.{ScenarioError}
use Rattle.scenario.specs.declared.fault.ScenarioError.TheVariants as errors

-- What the checks of keys find: an unknown key, at the top or in a traitor's table, or a fault at a place.
pub data Flaw : Type 0 where
  unknown : Option ℕ → List ℕ → Flaw
  faulty : ScenarioFault → ScenarioPlace → Flaw

-- Applies a second check to the value of the first one. If the first check found a fault, returns this fault.
infixl 10 ◌>>=◌
abbrev pub ◌>>=◌ : {A B : Type 0} → Result A Flaw → (A → Result B Flaw) → Result B Flaw
(Ok x) >>= f = f x
(Err e) >>= f = Err e

-- States that the error of the code reports the fault that the checks found. Out of memory is not such a fault.
abbrev pub Fails : {Y : Type 0} → ScenarioError → Result Y Flaw → Type 0
Fails (errors.Unknown at key) read = read ≡ Err (unknown at (string_bytes key))
Fails (errors.At fault place) read = read ≡ Err (faulty fault place)
Fails _ read = ⊥

-- States that the result of the code has the value that the checks return, as `view` shows it, or reports their fault.
abbrev pub Gives : {X Y : Type 0} → (X → Y) → Result X ScenarioError → Result Y Flaw → Type 0
Gives view (Ok x) read = read ≡ Ok (view x)
Gives view (Err e) read = Fails e read

-- States that the result satisfies `IsAnswer`, or is out of memory.
abbrev pub OrMemory : {X : Type 0} → (Result X ScenarioError → Type 0) → Result X ScenarioError → Type 0
OrMemory IsAnswer (Err errors.Memory) = Unit {0}
OrMemory IsAnswer r = IsAnswer r
