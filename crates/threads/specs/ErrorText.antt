-- The texts of a muster's errors (own).
use Rattle.std.specs.Prelude.{ℕ, List, codes}
use Rattle.threads.specs.declared.error.MusterError.{MusterError}
use Rattle.threads.specs.declared.error.MusterError.TheVariants.{Memory, Unaccounted, Spawn, Post}

abbrev pub told : MusterError → List ℕ
told Memory = codes "out of memory"
told Unaccounted = codes "M2"
told Spawn = codes "M3"
told Post = codes "M4"
