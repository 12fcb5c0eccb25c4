-- What the checks of a setting find wrong first, and the error that reports it (own).
use Rattle.std.specs.Prelude.{◌≡◌, ℕ, List, Result, Ok, Err, string_bytes}
use Rattle.trial.specs.declared.place.SettingPlace.{SettingPlace}
use Rattle.trial.specs.declared.fault.SettingFault.{SettingFault}
use Rattle.trial.specs.declared.fault.SettingError.{SettingError}
use Rattle.trial.specs.declared.fault.SettingError.TheVariants as errors

-- What is wrong with a setting: a key that no setting has, or a fault at a place.
pub data Flaw : Type 0 where
  unknown : List ℕ → Flaw
  faulty : SettingFault → SettingPlace → Flaw

-- Makes the next check with the value of the check before it, unless that check found a flaw.
infixl 10 ◌>>=◌
abbrev pub ◌>>=◌ : {A B : Type 0} → Result A Flaw → (A → Result B Flaw) → Result B Flaw
(Ok x) >>= f = f x
(Err e) >>= f = Err e

-- States that an error reports the flaw that the checks found, or that memory ran out.
abbrev pub Fails : {Y : Type 0} → SettingError → Result Y Flaw → Type 0
Fails errors.Memory read = Unit {0}
Fails (errors.Unknown key) read = read ≡ Err (unknown (string_bytes key))
Fails (errors.At fault place) read = read ≡ Err (faulty fault place)
Fails errors.Toml read = ⊥

-- States that a result is what the checks return: the same value, seen by `view`, or an error that reports their
-- flaw.
abbrev pub Gives : {X Y : Type 0} → (X → Y) → Result X SettingError → Result Y Flaw → Type 0
Gives view (Ok x) read = read ≡ Ok (view x)
Gives view (Err e) read = Fails e read
