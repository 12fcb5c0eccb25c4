-- Defines the report of a muster, which plays a campaign with a thread for each general, that returned no chronicle. No
-- file is at fault (own).
use Rattle.std.specs.Prelude.{ℕ, List, ◌++◌, codes}
use Rattle.threads.specs.declared.error.MusterError.{MusterError}
use Rattle.threads.specs.declared.error.MusterError.TheVariants as errors

-- Returns the error sentence for a muster that failed.
abbrev pub muster_sentence : MusterError → List ℕ
muster_sentence errors.Unaccounted =
    codes "the board's accesses do not explain the letters that the threads returned: "
    ++ codes "this is a fault of the program or the machine, not of a file"
muster_sentence errors.Spawn =
    codes "the system cannot start another thread, and a muster needs one for each general: `play` needs none"
muster_sentence errors.Post =
    codes "a general's letter found the post full: this is a fault of the program, not of a file"
muster_sentence errors.Memory = codes "there is not enough memory"

-- Returns the report of a muster that failed.
abbrev pub muster_told : MusterError → List ℕ
muster_told error = codes "\nerror: " ++ muster_sentence error
