-- How the value that a call leaves in r0 says that it is a slip (own).
use Rattle.std.specs.Prelude.{ℕ, ◌==◌, if◌then◌else◌, Bool, false, List, [], ◌∷◌, Option, None, Some}
use Rattle.semantics.specs.declared.request.Helper.{Helper}
use Rattle.semantics.specs.declared.request.Helper.TheVariants.{Send, SendRow, Sway, Honest, SignOrder, PassOn}
use Rattle.trial.specs.declared.helper_call.HelperCall.{HelperCall}

-- Returns whether the value that a call left in r0 means that it had no effect although it should.
abbrev pub says_none : Helper → ℕ → Bool
says_none Send r0 = r0 == 1
says_none SendRow r0 = r0 == 0
says_none Sway r0 = r0 == 0
says_none Honest r0 = r0 == 0
says_none SignOrder r0 = r0 == 1
says_none PassOn r0 = r0 == 1
says_none _ r0 = false

-- Returns the list of a call if the value that it left in r0 means that it is a slip, and otherwise no call.
abbrev pub call_said : ℕ → Option HelperCall → List HelperCall
call_said r0 None = []
call_said r0 (Some call) = if says_none call.helper r0 then call ∷ [] else []
