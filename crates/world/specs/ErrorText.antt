-- The texts of the errors with which an event may fail.
use Rattle.std.specs.Prelude.{ℕ, List, codes}
use Rattle.world.specs.declared.event.EventError.{EventError}
use Rattle.world.specs.declared.event.EventError.TheVariants.{NotOpen, NoGeneral, Memory}

-- Returns the text of an error: its two-character code, or `out of memory`.
abbrev pub told : EventError → List ℕ
told NotOpen = codes "E1"
told NoGeneral = codes "E2"
told Memory = codes "out of memory"
