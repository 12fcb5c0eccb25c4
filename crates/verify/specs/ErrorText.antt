-- Defines the texts of the verifier's errors.
use Rattle.std.specs.Prelude.{ℕ, List, ◌++◌, codes}
use Rattle.std.specs.Fmt.{decimal}
use Rattle.verify.specs.declared.error.VerifyError.{VerifyError}
use Rattle.verify.specs.declared.error.VerifyError.TheVariants.{At, Memory}
use Rattle.verify.specs.declared.reason.Reason.{Reason}
use Rattle.verify.specs.declared.reason.Reason.TheVariants.{BackJump, JumpOut, JumpInWide, LastNotExit, Unset, FrameWrite, PointerUse, Bounds, StackUnset, ContextWrite, Helper, Argument, ExitPointer}

-- Returns the code of a reason, V1 to V13.
abbrev pub code_of : Reason → List ℕ
code_of BackJump = codes "V1"
code_of JumpOut = codes "V2"
code_of JumpInWide = codes "V3"
code_of LastNotExit = codes "V4"
code_of Unset = codes "V5"
code_of FrameWrite = codes "V6"
code_of PointerUse = codes "V7"
code_of Bounds = codes "V8"
code_of StackUnset = codes "V9"
code_of ContextWrite = codes "V10"
code_of Helper = codes "V11"
code_of Argument = codes "V12"
code_of ExitPointer = codes "V13"

-- Returns the text of an error: the reason's code and the unit, or `out of memory`.
abbrev pub told : VerifyError → List ℕ
told (At reason unit) = code_of reason ++ codes " unit " ++ decimal unit
told Memory = codes "out of memory"
